use Rattle.std.proofs.Common.{◌+◌, ◌<◌, ◌≡◌, true, ℕ}
use Rattle.rbc_spec.specs.Centre as spec
use Rattle.rbc_spec.specs.Centre.{is_free}
use Rattle.rbc_train.proofs.starting.are_free.Given as goal
use Rattle.rbc_train.specs.Desks.{HasBook}

abbrev pub invariant-loop-k : goal.invariant-loop-k
invariant-loop-k l = (k : spec.Centre) → HasBook k l.book → (j : ℕ) → j < l.k
    → is_free l.line l.centre k (l.run.first + j) ≡ true
