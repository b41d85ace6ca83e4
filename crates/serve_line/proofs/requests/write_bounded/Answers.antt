use Rattle.serve_line.proofs.requests.write_bounded.Goals as goal
use Rattle.serve_line.proofs.WrittenLemmas.{begun_then}

pub returns-in_default : goal.returns-in_default
returns-in_default g c =
    begun_then c.args.text.now c.loop.rest.now c.loop.rest.now (g.O.Write.contents c.args.out.now)
    (g.O.Write.contents c.loop.out) (g.O.Write.contents c.write_some.new.out) c.loop.invariant
    c.in_default.ensures.none
