use Rattle.law_mutants.proofs.Broken.{mission_kept}
use Rattle.law_mutants.proofs.Kept.{yielded_once}
use Rattle.law_mutants.proofs.laws.no_yield_keeps_its_mission.Goals as goal

pub returns-clause-the_rule_keeps : goal.returns-clause-the_rule_keeps
returns-clause-the_rule_keeps ctx line w c u t counted centre within = yielded_once line c t w u counted centre within

pub returns-clause-the_wrong_rule_breaks : goal.returns-clause-the_wrong_rule_breaks
returns-clause-the_wrong_rule_breaks ctx = mission_kept
