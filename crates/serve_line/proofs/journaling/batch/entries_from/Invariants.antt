use Rattle.std.proofs.Common.{take}
use Rattle.serve_line.proofs.journaling.batch.entries_from.Given as goal
use Rattle.serve_line.specs.Journaling.Noting.{AreNotesOf}

abbrev pub invariant-loop-entry : goal.invariant-loop-entry
invariant-loop-entry l = AreNotesOf (take l.entry-index l.entries) l.next.items
