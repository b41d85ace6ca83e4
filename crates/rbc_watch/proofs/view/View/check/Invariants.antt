use Rattle.std.proofs.Common.{◌<◌, ℕ}
use Rattle.rbc_watch.proofs.view.View.check.Given as goal
use Rattle.rbc_watch.specs.Dangers.{IsSafeIn}
use Rattle.rbc_watch.specs.Seen.{view_of}

abbrev pub invariant-loop-s : goal.invariant-loop-s
invariant-loop-s l = (s : ℕ) → s < l.s → IsSafeIn l.line (view_of l.self) s
