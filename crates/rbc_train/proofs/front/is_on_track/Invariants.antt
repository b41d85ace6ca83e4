use Rattle.std.proofs.Common.{◌+◌, ◌<◌, ◌≡◌, true, ℕ}
use Rattle.rbc_spec.specs.Sections.{is_on}
use Rattle.rbc_train.proofs.front.is_on_track.Given as goal

abbrev pub invariant-loop-k : goal.invariant-loop-k
invariant-loop-k l = (j : ℕ) → j < l.k → is_on l.line l.track (l.run.first + j) ≡ true
