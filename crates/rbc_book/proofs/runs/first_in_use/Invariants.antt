use Rattle.rbc_book.proofs.Pages.{AreUnused}
use Rattle.rbc_book.proofs.runs.first_in_use.Given as goal

abbrev pub invariant-loop-i : goal.invariant-loop-i
invariant-loop-i l = AreUnused l.nid_engine l.runs l.i
