use Rattle.law_mutants.proofs.answers.laws.no_question_is_met_by_silence.Goals as goal
use Rattle.law_mutants.proofs.AnswersLemmas.Broken.{met_by_silence, vain_question_comes}
use Rattle.law_mutants.proofs.AnswersLemmas.Kept.{answered}

pub returns-clause-the_rule_keeps : goal.returns-clause-the_rule_keeps
returns-clause-the_rule_keeps ctx line w a c t d x ok counted from to takes known here full =
    answered line ok w a c t counted from to takes known here x d full

pub returns-clause-the_wrong_rule_breaks : goal.returns-clause-the_wrong_rule_breaks
returns-clause-the_wrong_rule_breaks ctx = (vain_question_comes, met_by_silence)
