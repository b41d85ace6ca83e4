use Rattle.std.proofs.Common.{◌-◌, ◌≤◌}
use Rattle.rbc_book.proofs.book.Book.take_run.Given as goal
use Rattle.rbc_book.specs.Changes.{IsTaken}

abbrev pub invariant-loop-taken : goal.invariant-loop-taken
invariant-loop-taken l = IsTaken (record { first = l.first; count = l.taken }) l.nid_engine l.fn.self l.self
    × (l.taken ≤ l.count)

abbrev pub decreases-loop-taken : goal.decreases-loop-taken
decreases-loop-taken l = l.count - l.taken
