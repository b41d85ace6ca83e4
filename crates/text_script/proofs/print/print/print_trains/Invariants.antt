use Rattle.std.proofs.Common.{take}
use Rattle.std.specs.Io.KnownBytes.{Appends}
use Rattle.rbc_spec.specs.LineCentre.{LineState}
use Rattle.rbc_world.specs.View.{Shows}
use Rattle.text_script.proofs.print.print.print_trains.Given as goal
use Rattle.text_script.specs.Print.Shown.{train_rows}

abbrev pub invariant-loop-nid_engine : goal.invariant-loop-nid_engine
invariant-loop-nid_engine g l =
    (v : LineState) → Shows l.line v l.view
    → Appends (g.W.Write.contents l.initial.out) (g.W.Write.contents l.out)
    (train_rows l.line v (take l.nid_engine-index l.nid_engine-items))
