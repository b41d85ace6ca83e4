use Rattle.std.proofs.Common.{refl}
use Rattle.test_scenes.proofs.RuleParts.{heard_is, not_safe_on, not_safe_there, said_is}
use Rattle.test_scenes.proofs.train_rules.all_parts_are_the_five_rules.Goals as goal

pub returns-clause-says : goal.returns-clause-says
returns-clause-says c line n m x = refl

pub returns-clause-said : goal.returns-clause-said
returns-clause-said c n m x = said_is n m x

pub returns-clause-hears : goal.returns-clause-hears
returns-clause-hears c line n m x = heard_is line n m m.body x

pub returns-clause-runs : goal.returns-clause-runs
returns-clause-runs c front rear x = refl

pub returns-clause-meeting : goal.returns-clause-meeting
returns-clause-meeting c line k t u s meet apart safe = not_safe_there line k t u s meet apart safe

pub returns-clause-not_released : goal.returns-clause-not_released
returns-clause-not_released c line k t s is safe = not_safe_on line k t s is safe
