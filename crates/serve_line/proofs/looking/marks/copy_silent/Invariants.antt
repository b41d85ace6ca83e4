use Rattle.std.proofs.Common.{◌<◌, ◌≡◌, ◌≤◌, slice_get, ℕ}
use Rattle.serve_line.proofs.looking.marks.copy_silent.Given as goal
use Rattle.serve_line.specs.Marks.{with_silent}

abbrev pub invariant-loop-c : goal.invariant-loop-c
invariant-loop-c l = record {
  done : (c : ℕ) → c < l.c → slice_get l.counts c ≡ with_silent l.silent c (slice_get l.initial.counts c);
  rest : (c : ℕ) → l.c ≤ c → slice_get l.counts c ≡ slice_get l.initial.counts c;
}
