use Rattle.std.proofs.Common.{◌≡◌, option_map, slice_get, ℕ}
use Rattle.serve_line.proofs.counting.mark_centres.Given as goal
use Rattle.serve_line.specs.Marks.{silent_of}

abbrev pub invariant-loop-c : goal.invariant-loop-c
invariant-loop-c g l =
    (c : ℕ) → option_map silent_of (slice_get l.centres c) ≡ option_map silent_of (slice_get l.initial.centres c)
