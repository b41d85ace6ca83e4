use Rattle.test_scenes.proofs.RuleScenes.{three_allowed, three_end, three_first, three_follows, three_safe}
use Rattle.test_scenes.proofs.RuleScenes.{three_second}
use Rattle.test_scenes.proofs.train_rules.trains_run_over_three_centres.Goals as goal

pub returns-clause-allowed : goal.returns-clause-allowed
returns-clause-allowed c = three_allowed

pub returns-clause-safe : goal.returns-clause-safe
returns-clause-safe c = three_safe

pub returns-clause-follows : goal.returns-clause-follows
returns-clause-follows c = three_follows

pub returns-clause-end : goal.returns-clause-end
returns-clause-end c = three_end

pub returns-clause-first : goal.returns-clause-first
returns-clause-first c = three_first

pub returns-clause-second : goal.returns-clause-second
returns-clause-second c = three_second
