use Rattle.rbc_msgs.proofs.FirstFault.{first-fault}
use Rattle.rbc_msgs.proofs.stream_laws.a_fault_is_the_first.Goals as goal

pub returns : goal.returns
returns c = first-fault
