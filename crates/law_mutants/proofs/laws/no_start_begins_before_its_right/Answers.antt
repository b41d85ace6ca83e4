use Rattle.law_mutants.proofs.Broken.{begun_early}
use Rattle.law_mutants.proofs.Kept.{started_once}
use Rattle.law_mutants.proofs.laws.no_start_begins_before_its_right.Goals as goal

pub returns-clause-the_rule_keeps : goal.returns-clause-the_rule_keeps
returns-clause-the_rule_keeps ctx line w c u t place counted centre free within =
    started_once line c t w u place counted centre free within

pub returns-clause-the_wrong_rule_breaks : goal.returns-clause-the_wrong_rule_breaks
returns-clause-the_wrong_rule_breaks ctx = begun_early
