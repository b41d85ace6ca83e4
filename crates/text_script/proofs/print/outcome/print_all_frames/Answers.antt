use Rattle.rbc_world.specs.rbc_centre.Sent.{frames_to}
use Rattle.text_script.proofs.print.outcome.print_all_frames.Goals as goal
use Rattle.text_script.proofs.PrintLemmas.After.{frames_after}

pub loop-to-preserved : goal.loop-to-preserved
loop-to-preserved g c =
    frames_after _ _ _ c.args.line.now c.args.centre.now (frames_to c.args.frames.now) c.loop-to.to c.loop-to.invariant
    c.in_ok-print_frames.ensures
