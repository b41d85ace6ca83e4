use Rattle.std.proofs.Common.{length}
use Rattle.rbc_msgs.proofs.Further.{IsRead}
use Rattle.rbc_msgs.proofs.train_reading.read_some.Given as goal

abbrev pub invariant-loop-further : goal.invariant-loop-further
invariant-loop-further l = IsRead l.fn.reader l.reader l.further.items

abbrev pub decreases-loop-further : goal.decreases-loop-further
decreases-loop-further l = length l.reader
