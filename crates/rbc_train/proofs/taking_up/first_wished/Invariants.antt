use Rattle.std.proofs.Common.{◌&&◌, ◌+◌, ◌<◌, ◌≡◌, ◌≤◌, false, ℕ}
use Rattle.rbc_book.specs.Book.{wish_at}
use Rattle.rbc_spec.specs.Line.{is_home}
use Rattle.rbc_train.proofs.taking_up.first_wished.Given as goal

abbrev pub invariant-loop-k : goal.invariant-loop-k
invariant-loop-k l = (s : ℕ) → l.run.first ≤ s → s < l.run.first + l.k
    → (is_home l.line l.centre s && wish_at l.book s) ≡ false
