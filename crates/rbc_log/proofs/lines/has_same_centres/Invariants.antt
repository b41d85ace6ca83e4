use Rattle.std.proofs.Common.{◌<◌, ◌≡◌, slice_get, ℕ}
use Rattle.rbc_log.proofs.lines.has_same_centres.Given as goal

abbrev pub invariant-loop-c : goal.invariant-loop-c
invariant-loop-c l = (k : ℕ) → k < l.c → slice_get l.a.centres k ≡ slice_get l.b.centres k
