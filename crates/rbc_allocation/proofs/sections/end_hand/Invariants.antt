use Rattle.std.proofs.Common.{length}
use Rattle.rbc_allocation.proofs.sections.end_hand.Given as goal

abbrev pub decreases-loop-token : goal.decreases-loop-token
decreases-loop-token l = length l.hand.holds
