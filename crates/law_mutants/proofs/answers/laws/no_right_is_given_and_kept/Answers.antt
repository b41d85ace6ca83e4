use Rattle.law_mutants.proofs.answers.laws.no_right_is_given_and_kept.Goals as goal
use Rattle.law_mutants.proofs.AnswersLemmas.Broken.{given_and_kept, question_comes}
use Rattle.law_mutants.proofs.AnswersLemmas.Kept.{given_once}

pub returns-clause-the_rule_keeps : goal.returns-clause-the_rule_keeps
returns-clause-the_rule_keeps ctx line w a c u t ok counted from to takes within =
    given_once line c t w a u counted from to takes within

pub returns-clause-the_wrong_rule_breaks : goal.returns-clause-the_wrong_rule_breaks
returns-clause-the_wrong_rule_breaks ctx = (question_comes, given_and_kept)
