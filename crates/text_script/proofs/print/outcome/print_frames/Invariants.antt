use Rattle.std.proofs.Common.{take}
use Rattle.std.specs.Io.KnownBytes.{Appends}
use Rattle.std.specs.List.{flat_map}
use Rattle.text_script.proofs.print.outcome.print_frames.Given as goal
use Rattle.text_script.specs.Print.Rows.{frame_row}

abbrev pub invariant-loop-frame : goal.invariant-loop-frame
invariant-loop-frame g l =
    Appends (g.W.Write.contents l.initial.out) (g.W.Write.contents l.out)
    (flat_map (frame_row l.centre l.name) (take l.frame-index l.frame-items))
