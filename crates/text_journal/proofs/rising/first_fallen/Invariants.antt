use Rattle.text_journal.proofs.rising.first_fallen.Given as goal
use Rattle.text_journal.specs.Order.{RiseTo, stamps_of}

abbrev pub invariant-loop-at : goal.invariant-loop-at
invariant-loop-at l = RiseTo l.at (stamps_of l.entries)
