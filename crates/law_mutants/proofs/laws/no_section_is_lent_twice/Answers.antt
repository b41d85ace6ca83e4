use Rattle.law_mutants.proofs.Broken.{lent_twice}
use Rattle.law_mutants.proofs.Kept.{lent_once}
use Rattle.law_mutants.proofs.laws.no_section_is_lent_twice.Goals as goal

pub returns-clause-the_rule_keeps : goal.returns-clause-the_rule_keeps
returns-clause-the_rule_keeps ctx line w c d u first most t s ok counted centre within =
    lent_once line ok c t s w d u first most counted centre within

pub returns-clause-the_wrong_rule_breaks : goal.returns-clause-the_wrong_rule_breaks
returns-clause-the_wrong_rule_breaks ctx = lent_twice
