use Rattle.std.proofs.Common.{◌≡◌, false, option_map, slice_get, ℕ}
use Rattle.serve_line.proofs.pages.mark_endpoints.Given as goal
use Rattle.serve_line.specs.Marks.{DiffersInMarks, marks_of}

abbrev pub invariant-loop-endpoint : goal.invariant-loop-endpoint
invariant-loop-endpoint g l = record {
  others : DiffersInMarks l.fn.now l.now;
  stopped : l.has_changed ≡ false → l.now.is_stopped ≡ l.fn.now.is_stopped;
  same : l.has_changed ≡ false → (c : ℕ) → option_map marks_of (slice_get l.now.centres.items c)
      ≡ option_map marks_of (slice_get l.fn.now.centres.items c);
}
