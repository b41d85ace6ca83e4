use Rattle.law_trains.proofs.SceneLemmas.{back_obeys, both_obey, meets_after, meets_without, not_after, not_without}
use Rattle.law_trains.proofs.scenes.a_train_that_breaks_a_rule_meets_another.Goals as goal

pub returns-clause-both_obey : goal.returns-clause-both_obey
returns-clause-both_obey c = both_obey

pub returns-clause-not_without : goal.returns-clause-not_without
returns-clause-not_without c = not_without

pub returns-clause-meets_without : goal.returns-clause-meets_without
returns-clause-meets_without c safe = meets_without safe

pub returns-clause-back_obeys : goal.returns-clause-back_obeys
returns-clause-back_obeys c = back_obeys

pub returns-clause-not_after : goal.returns-clause-not_after
returns-clause-not_after c = not_after

pub returns-clause-meets_after : goal.returns-clause-meets_after
returns-clause-meets_after c safe = meets_after safe
