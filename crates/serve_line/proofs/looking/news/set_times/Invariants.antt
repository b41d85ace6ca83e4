use Rattle.std.proofs.Common.{◌<◌, ◌≡◌, ◌≤◌, false, option_map, slice_get, ℕ}
use Rattle.serve_line.proofs.looking.news.set_times.Given as goal
use Rattle.serve_line.specs.News.{time_at}

abbrev pub invariant-loop-i : goal.invariant-loop-i
invariant-loop-i l = record {
  done : (i : ℕ) → i < l.i
      → option_map (λ e. e.time_ms) (slice_get l.last i) ≡ time_at l.told i (slice_get l.initial.last i);
  rest : (i : ℕ) → l.i ≤ i → slice_get l.last i ≡ slice_get l.initial.last i;
  same : l.has_changed ≡ false → l.last ≡ l.initial.last;
}
