use Rattle.rbc_msgs.proofs.stream.Stream.new.Goals as goal
use Rattle.rbc_msgs.proofs.Streams.{rest-none}

pub invariant_of-result : goal.invariant_of-result
invariant_of-result c = rw c.new.ensures.items rest-none
