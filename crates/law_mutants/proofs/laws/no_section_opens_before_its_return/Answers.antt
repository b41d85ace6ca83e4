use Rattle.law_mutants.proofs.Broken.{opened_early, return_comes}
use Rattle.law_mutants.proofs.Kept.{home_once}
use Rattle.law_mutants.proofs.laws.no_section_opens_before_its_return.Goals as goal

pub returns-clause-the_rule_keeps : goal.returns-clause-the_rule_keeps
returns-clause-the_rule_keeps ctx line w a c u t s r ok counted from centre takes within =
    home_once line ok c t s w a u r counted from centre takes within

pub returns-clause-the_wrong_rule_breaks : goal.returns-clause-the_wrong_rule_breaks
returns-clause-the_wrong_rule_breaks ctx = (return_comes, opened_early)
