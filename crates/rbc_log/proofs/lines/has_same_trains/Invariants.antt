use Rattle.std.proofs.Common.{◌<◌, ◌≡◌, slice_get, ℕ}
use Rattle.rbc_log.proofs.lines.has_same_trains.Given as goal

abbrev pub invariant-loop-i : goal.invariant-loop-i
invariant-loop-i l = (k : ℕ) → k < l.i → slice_get l.a.trains k ≡ slice_get l.b.trains k
