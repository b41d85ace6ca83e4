use Rattle.std.proofs.Common.{length}
use denote.Shadow.{shadow}
use denote.Text.{Utf8}
use Rattle.text_journal.proofs.Entries.{Reads}
use Rattle.text_journal.proofs.reading.entries_in.Given as goal

abbrev pub invariant-loop-row : goal.invariant-loop-row
invariant-loop-row l = shadow (Utf8 l.rest) × Reads l.line l.centre l.text l.entries.items l.rest

abbrev pub decreases-loop-row : goal.decreases-loop-row
decreases-loop-row l = length l.rest
