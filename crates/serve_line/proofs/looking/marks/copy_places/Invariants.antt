use Rattle.std.proofs.Common.{◌<◌, ◌≡◌, ◌≤◌, slice_get, ℕ}
use Rattle.serve_line.proofs.looking.marks.copy_places.Given as goal
use Rattle.serve_line.specs.Marks.{marked}

abbrev pub invariant-loop-c : goal.invariant-loop-c
invariant-loop-c l = record {
  done : (c : ℕ) → c < l.c → slice_get l.now c ≡ marked l.before c (slice_get l.initial.now c);
  rest : (c : ℕ) → l.c ≤ c → slice_get l.now c ≡ slice_get l.initial.now c;
}
