use Rattle.std.proofs.Common.{length}
use Rattle.rbc_msgs.proofs.SameBits.{AreSame}
use Rattle.rbc_msgs.proofs.train_same.are_same_bits.Given as goal

abbrev pub invariant-loop-a : goal.invariant-loop-a
invariant-loop-a l = AreSame l.fn.a l.fn.b l.a l.b

abbrev pub decreases-loop-a : goal.decreases-loop-a
decreases-loop-a l = length l.a
