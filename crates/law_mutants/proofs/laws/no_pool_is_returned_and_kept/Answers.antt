use Rattle.law_mutants.proofs.Broken.{pool_kept}
use Rattle.law_mutants.proofs.Kept.{returned_once}
use Rattle.law_mutants.proofs.laws.no_pool_is_returned_and_kept.Goals as goal

pub returns-clause-the_rule_keeps : goal.returns-clause-the_rule_keeps
returns-clause-the_rule_keeps ctx line w c u t s ok counted centre within =
    returned_once line ok c t s w u counted centre within

pub returns-clause-the_wrong_rule_breaks : goal.returns-clause-the_wrong_rule_breaks
returns-clause-the_wrong_rule_breaks ctx = pool_kept
