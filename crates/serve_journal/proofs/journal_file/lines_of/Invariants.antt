use Rattle.std.proofs.Common.{◌≡◌, take}
use Rattle.std.specs.List.{flat_map}
use Rattle.serve_journal.proofs.journal_file.lines_of.Given as goal
use Rattle.text_journal.specs.Journal.{entry_line}

abbrev pub invariant-loop-entry : goal.invariant-loop-entry
invariant-loop-entry l = l.text.items ≡ flat_map (entry_line l.line) (take l.entry-index l.entries)
