use Rattle.law_promises.proofs.arrival.scenes.a_lost_authority_is_seen.Goals as goal
use Rattle.law_promises.proofs.ArrivalLemmas.Seen.{lost_first, lost_part, lost_received, lost_third}

pub returns-clause-part : goal.returns-clause-part
returns-clause-part c = lost_part

pub returns-clause-received : goal.returns-clause-received
returns-clause-received c = lost_received

pub returns-clause-waits : goal.returns-clause-waits
returns-clause-waits c = lost_third

pub returns-clause-stays : goal.returns-clause-stays
returns-clause-stays c = lost_first
