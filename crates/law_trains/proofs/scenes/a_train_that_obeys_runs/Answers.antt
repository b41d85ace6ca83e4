use Rattle.law_trains.proofs.SceneLemmas.{all_new, gives_up_obeys, goes_obeys, goes_there, no_farther, not_again}
use Rattle.law_trains.proofs.scenes.a_train_that_obeys_runs.Goals as goal

pub returns-clause-new : goal.returns-clause-new
returns-clause-new c t = all_new t

pub returns-clause-obeys : goal.returns-clause-obeys
returns-clause-obeys c = goes_obeys

pub returns-clause-runs : goal.returns-clause-runs
returns-clause-runs c = goes_there

pub returns-clause-no_farther : goal.returns-clause-no_farther
returns-clause-no_farther c = no_farther

pub returns-clause-obeys_too : goal.returns-clause-obeys_too
returns-clause-obeys_too c = gives_up_obeys

pub returns-clause-not_again : goal.returns-clause-not_again
returns-clause-not_again c = not_again
