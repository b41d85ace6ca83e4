use Rattle.std.proofs.Common.{◌++◌, ◌≡◌, take}
use Rattle.std.specs.List.{flat_map}
use Rattle.std.specs.Prelude.{string_bytes}
use Rattle.text_journal.proofs.values.add_trains.Given as goal
use Rattle.text_journal.specs.LineText.{train_line}

abbrev pub invariant-loop-i : goal.invariant-loop-i
invariant-loop-i l =
    string_bytes l.text ≡ string_bytes l.initial.text ++ flat_map train_line (take l.i l.line.trains)
