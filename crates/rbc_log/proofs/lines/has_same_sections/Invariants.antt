use Rattle.std.proofs.Common.{◌<◌, ◌≡◌, slice_get, ℕ}
use Rattle.rbc_log.proofs.lines.has_same_sections.Given as goal

abbrev pub invariant-loop-s : goal.invariant-loop-s
invariant-loop-s l = (k : ℕ) → k < l.s → slice_get l.a.sections k ≡ slice_get l.b.sections k
