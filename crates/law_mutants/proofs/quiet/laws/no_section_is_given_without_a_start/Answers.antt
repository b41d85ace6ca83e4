use Rattle.law_mutants.proofs.QuietLemmas.{given_at_once, gives_by_admission}
use Rattle.law_mutants.proofs.quiet.laws.no_section_is_given_without_a_start.Goals as goal

pub returns-clause-the_rule_keeps : goal.returns-clause-the_rule_keeps
returns-clause-the_rule_keeps ctx line v new q said t s h before after =
    gives_by_admission line v new q said t s h before after

pub returns-clause-the_wrong_rule_breaks : goal.returns-clause-the_wrong_rule_breaks
returns-clause-the_wrong_rule_breaks ctx = given_at_once
