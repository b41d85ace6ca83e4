use Rattle.std.proofs.Common.{◌++◌, ◌≡◌, take}
use Rattle.std.specs.List.{flat_map}
use Rattle.std.specs.Prelude.{string_bytes}
use Rattle.text_journal.proofs.values.add_centres.Given as goal
use Rattle.text_journal.specs.LineText.{centre_line}

abbrev pub invariant-loop-c : goal.invariant-loop-c
invariant-loop-c l =
    string_bytes l.text ≡ string_bytes l.initial.text ++ flat_map centre_line (take l.c l.line.centres)
