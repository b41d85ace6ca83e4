use Rattle.std.proofs.Common.{◌+◌, ◌-◌, ◌<◌, ◌^◌, ◌≡◌, ◌≤◌, min, slice_index, ℕ}
use Rattle.std.specs.List.{count_by}
use Rattle.serve_line.proofs.status.silences.add_silent.Given as goal
use Rattle.serve_line.specs.Silences.{is_silent_for}

abbrev pub invariant-loop-place : goal.invariant-loop-place
invariant-loop-place l = record {
  done : (k : ℕ) → k < l.place → slice_index l.counts k
      ≡ min (slice_index l.initial.counts k + count_by (λ e. is_silent_for (k + 1) e) l.entries) (2 ^ 64 - 1);
  rest : (k : ℕ) → l.place ≤ k → slice_index l.counts k ≡ slice_index l.initial.counts k;
}
