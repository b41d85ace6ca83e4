use Rattle.law_mutants.proofs.Broken.{shut_early}
use Rattle.law_mutants.proofs.Kept.{asked_back_once}
use Rattle.law_mutants.proofs.laws.no_section_shuts_as_it_is_asked_back.Goals as goal

pub returns-clause-the_rule_keeps : goal.returns-clause-the_rule_keeps
returns-clause-the_rule_keeps ctx line w c e t s ok counted centre within =
    asked_back_once line ok c t s w e counted centre within

pub returns-clause-the_wrong_rule_breaks : goal.returns-clause-the_wrong_rule_breaks
returns-clause-the_wrong_rule_breaks ctx = shut_early
