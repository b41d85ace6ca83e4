use Rattle.rbc_msgs.proofs.FirstFault.{read-rest, rest-read}
use Rattle.rbc_msgs.proofs.Needed.{rest-short}
use Rattle.rbc_msgs.proofs.OneReading.{rest-no-message}
use Rattle.rbc_msgs.proofs.stream_laws.a_rest_is_short.Goals as goal

pub returns-clause-no_message : goal.returns-clause-no_message
returns-clause-no_message c = rest-no-message

pub returns-clause-short : goal.returns-clause-short
returns-clause-short c = λ bytes. (rest-read bytes, read-rest bytes)

pub returns-clause-few : goal.returns-clause-few
returns-clause-few c = rest-short
