use Rattle.std.proofs.Common.{◌++◌, ◌≡◌, take}
use Rattle.std.specs.List.{flat_map}
use Rattle.std.specs.Prelude.{string_bytes}
use Rattle.text_journal.proofs.values.add_sections.Given as goal
use Rattle.text_journal.specs.LineText.{section_line}

abbrev pub invariant-loop-s : goal.invariant-loop-s
invariant-loop-s l =
    string_bytes l.text ≡ string_bytes l.initial.text ++ flat_map section_line (take l.s l.line.sections)
