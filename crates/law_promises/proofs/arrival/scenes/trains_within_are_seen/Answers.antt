use Rattle.law_promises.proofs.arrival.scenes.trains_within_are_seen.Goals as goal
use Rattle.law_promises.proofs.ArrivalLemmas.Told.{both_within, first_over, not_over, passed_is_not, second_over}

pub returns-clause-within : goal.returns-clause-within
returns-clause-within c = both_within

pub returns-clause-first : goal.returns-clause-first
returns-clause-first c = first_over

pub returns-clause-second : goal.returns-clause-second
returns-clause-second c = second_over

pub returns-clause-not_both : goal.returns-clause-not_both
returns-clause-not_both c = not_over

pub returns-clause-passed : goal.returns-clause-passed
returns-clause-passed c = passed_is_not
