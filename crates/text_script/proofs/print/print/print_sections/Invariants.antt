use Rattle.std.specs.Io.KnownBytes.{Appends}
use Rattle.rbc_spec.specs.LineCentre.{LineState}
use Rattle.rbc_world.specs.View.{Shows}
use Rattle.text_script.proofs.print.print.print_sections.Given as goal
use Rattle.text_script.specs.Print.Shown.{section_rows}

abbrev pub invariant-loop-number : goal.invariant-loop-number
invariant-loop-number g l =
    (v : LineState) → Shows l.line v l.view
    → Appends (g.W.Write.contents l.initial.out) (g.W.Write.contents l.out) (section_rows l.line v l.number)
