use Rattle.std.proofs.Common.{◌<◌, IfSome, slice_get, ℕ}
use Rattle.serve_line.proofs.looking.page_snapshot.see_sections.Given as goal
use Rattle.serve_line.specs.Snapshots.{IsViewIn}

abbrev pub invariant-loop-s : goal.invariant-loop-s
invariant-loop-s l = (s : ℕ) → s < l.s → IfSome (slice_get l.sections s) (IsViewIn l.line l.snapshot s)
