use Rattle.std.proofs.Common.{refl}
use Rattle.serve_line.proofs.Ranges.{flat_after}
use Rattle.serve_line.proofs.status.life.write_used.Goals as goal
use Rattle.serve_line.specs.Lives.{link_row}

pub loop-to-preserved : goal.loop-to-preserved
loop-to-preserved c =
    flat_after (link_row c.args.line.now c.args.log.now.core) c.loop-to.to _ c.loop-to.text.items _ _
    c.in_ok-write_link.ensures refl c.loop-to.invariant
