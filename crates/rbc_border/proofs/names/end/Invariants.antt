use Rattle.std.proofs.Common.{length}
use Rattle.rbc_border.proofs.names.end.Given as goal
use Rattle.rbc_border.specs.Names.{IsAllNames}

abbrev pub invariant-loop-token : goal.invariant-loop-token
invariant-loop-token l = IsAllNames l.names

abbrev pub decreases-loop-token : goal.decreases-loop-token
decreases-loop-token l = length l.names.holds
