use Rattle.law_mutants.proofs.answers.laws.no_right_is_asked_for_twice.Goals as goal
use Rattle.law_mutants.proofs.AnswersLemmas.Broken.{asked_twice}
use Rattle.law_mutants.proofs.AnswersLemmas.Kept.{asked_once}

pub returns-clause-the_rule_keeps : goal.returns-clause-the_rule_keeps
returns-clause-the_rule_keeps ctx line w c t d place x ok counted to within =
    asked_once line ok c w t d place x counted to within

pub returns-clause-the_wrong_rule_breaks : goal.returns-clause-the_wrong_rule_breaks
returns-clause-the_wrong_rule_breaks ctx = asked_twice
