use Rattle.law_mutants.proofs.answers.laws.no_return_is_swallowed.Goals as goal
use Rattle.law_mutants.proofs.AnswersLemmas.Broken.{return_comes, swallowed}
use Rattle.law_mutants.proofs.AnswersLemmas.Kept.{none_lost}
use Rattle.rbc_spec.specs.World.{Delivery}

pub returns-clause-the_rule_keeps : goal.returns-clause-the_rule_keeps
returns-clause-the_rule_keeps ctx line events answers w new answer a b number t s ok before is =
    none_lost line ok events answers w before (Delivery a b number) answer new is t s

pub returns-clause-the_wrong_rule_breaks : goal.returns-clause-the_wrong_rule_breaks
returns-clause-the_wrong_rule_breaks ctx = (return_comes, swallowed)
