use Rattle.rbc_msgs.proofs.OneReading.{one-fault, one-row, rest-no-fault}
use Rattle.rbc_msgs.proofs.stream_laws.one_reading.Goals as goal

pub returns-clause-messages : goal.returns-clause-messages
returns-clause-messages c = one-row

pub returns-clause-rest : goal.returns-clause-rest
returns-clause-rest c = rest-no-fault

pub returns-clause-fault : goal.returns-clause-fault
returns-clause-fault c = one-fault
