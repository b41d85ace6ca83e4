use Rattle.std.proofs.Common.{◌<◌, ◌≡◌, length, slice_get, slice_index, ℕ}
use Rattle.std.specs.Option.{option_map_or}
use Rattle.serve_line.proofs.fact_notes.begins_of.Given as goal

abbrev pub invariant-loop-c : goal.invariant-loop-c
invariant-loop-c l = record {
  long : length l.begins ≡ 8;
  done : (c : ℕ) → c < l.c
      → slice_index l.begins c ≡ option_map_or (λ journal. journal.begins) (slice_get l.journals c) 0;
}
