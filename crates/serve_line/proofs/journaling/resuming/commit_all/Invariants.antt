use Rattle.std.proofs.Common.{take}
use Rattle.serve_line.proofs.journaling.resuming.commit_all.Given as goal
use Rattle.serve_line.specs.Journaling.Resuming.{AreResumed}

abbrev pub invariant-loop-entry : goal.invariant-loop-entry
invariant-loop-entry g l = AreResumed l.nodes (take l.entry-index l.entries) l.fn.shares l.shares
