use Rattle.std.proofs.Common.{Err}
use Rattle.rbc_msgs.proofs.OneReading.{adds-both, fault-then, fed-then, one-answer}
use Rattle.rbc_msgs.proofs.stream_laws.no_cut_matters.Goals as goal

pub returns-clause-messages : goal.returns-clause-messages
returns-clause-messages c = adds-both

pub returns-clause-both : goal.returns-clause-both
returns-clause-both c =
    λ before middle after once a b old mid new whole result answer p q had r again.
    one-answer before after once _ old new whole result answer
    (fed-then before middle after a b old mid new result p q) had r again

pub returns-clause-fault : goal.returns-clause-fault
returns-clause-fault c =
    λ before after once a b old new whole fault answer p had r again.
    one-answer before after once _ old new whole (Err fault) answer
    (fault-then before after a b old new fault p) had r again
