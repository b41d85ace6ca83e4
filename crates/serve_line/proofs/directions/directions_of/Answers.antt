use Rattle.serve_line.proofs.directions.directions_of.Goals as goal
use Rattle.serve_line.proofs.Ranges.{flat_next}
use Rattle.serve_line.specs.Directions.{directions_from}

pub loop-from-preserved : goal.loop-from-preserved
loop-from-preserved c =
    flat_next (directions_from c.args.line.now) c.loop-from.from c.loop-from.all.items c.in_ok-next.next.items
    c.append.new.self.items c.in_ok-append.ensures.items c.in_ok-next.ensures c.loop-from.invariant
