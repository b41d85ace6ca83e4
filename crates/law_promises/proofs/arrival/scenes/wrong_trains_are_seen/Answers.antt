use Rattle.law_promises.proofs.arrival.scenes.wrong_trains_are_seen.Goals as goal
use Rattle.law_promises.proofs.ArrivalLemmas.Seen.{authority_refused, authority_two_trains, grant_had_back}
use Rattle.law_promises.proofs.ArrivalLemmas.Seen.{grant_refused}
use Rattle.law_promises.proofs.ArrivalLemmas.Told.{granted_is_safe, moved_is_safe}

pub returns-clause-authority : goal.returns-clause-authority
returns-clause-authority c = authority_refused

pub returns-clause-two_trains : goal.returns-clause-two_trains
returns-clause-two_trains c = authority_two_trains

pub returns-clause-grant : goal.returns-clause-grant
returns-clause-grant c = grant_refused

pub returns-clause-had_back : goal.returns-clause-had_back
returns-clause-had_back c = grant_had_back

pub returns-clause-told : goal.returns-clause-told
returns-clause-told c = moved_is_safe

pub returns-clause-granted : goal.returns-clause-granted
returns-clause-granted c = granted_is_safe
