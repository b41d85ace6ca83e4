use Rattle.std.proofs.Common.{◌≤◌}
use Rattle.serve_line.proofs.pages.taken_in.Given as goal

abbrev pub invariant-loop-slot : goal.invariant-loop-slot
invariant-loop-slot l = l.taken ≤ l.slot-index
