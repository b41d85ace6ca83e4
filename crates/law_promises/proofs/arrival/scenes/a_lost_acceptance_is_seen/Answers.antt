use Rattle.law_promises.proofs.arrival.scenes.a_lost_acceptance_is_seen.Goals as goal
use Rattle.law_promises.proofs.ArrivalLemmas.Seen.{accepted_received, accepted_second, not_accepted_first}

pub returns-clause-received : goal.returns-clause-received
returns-clause-received c = accepted_received

pub returns-clause-waits : goal.returns-clause-waits
returns-clause-waits c = not_accepted_first

pub returns-clause-runs : goal.returns-clause-runs
returns-clause-runs c = accepted_second
