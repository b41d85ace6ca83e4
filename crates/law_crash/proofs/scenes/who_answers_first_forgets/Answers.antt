use Rattle.law_crash.proofs.Played.{answers_begins, first_runs, forgets_follows, is_forgotten, not_safe, third_runs}
use Rattle.law_crash.proofs.scenes.who_answers_first_forgets.Goals as goal

pub returns-clause-first : goal.returns-clause-first
returns-clause-first c = answers_begins

pub returns-clause-second : goal.returns-clause-second
returns-clause-second c = forgets_follows

pub returns-clause-forgotten : goal.returns-clause-forgotten
returns-clause-forgotten c = is_forgotten

pub returns-clause-train_1 : goal.returns-clause-train_1
returns-clause-train_1 c = first_runs

pub returns-clause-train_3 : goal.returns-clause-train_3
returns-clause-train_3 c = third_runs

pub returns-clause-not_safe : goal.returns-clause-not_safe
returns-clause-not_safe c = not_safe
