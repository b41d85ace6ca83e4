use Rattle.std.specs.Io.KnownBytes.{Appends}
use Rattle.rbc_world.specs.rbc_centre.Sent.{frames_to}
use Rattle.text_script.proofs.print.outcome.print_all_frames.Given as goal
use Rattle.text_script.specs.Print.Answers.{frame_rows}

abbrev pub invariant-loop-to : goal.invariant-loop-to
invariant-loop-to g l =
    Appends (g.W.Write.contents l.initial.out) (g.W.Write.contents l.out)
    (frame_rows l.line l.centre (frames_to l.frames) l.to)
