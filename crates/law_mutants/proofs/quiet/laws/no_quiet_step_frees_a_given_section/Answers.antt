use Rattle.law_mutants.proofs.QuietLemmas.{at_first, freed_when_given, own_keeps, quiet_keeps}
use Rattle.law_mutants.proofs.quiet.laws.no_quiet_step_frees_a_given_section.Goals as goal

pub returns-clause-at_the_beginning : goal.returns-clause-at_the_beginning
returns-clause-at_the_beginning ctx line = at_first line

pub returns-clause-an_own_step_keeps : goal.returns-clause-an_own_step_keeps
returns-clause-an_own_step_keeps ctx line v mid event said why so h = own_keeps line v mid event said why so h

pub returns-clause-the_rule_keeps : goal.returns-clause-the_rule_keeps
returns-clause-the_rule_keeps ctx line v new q said so h = quiet_keeps line v new q said so h

pub returns-clause-the_wrong_rule_breaks : goal.returns-clause-the_wrong_rule_breaks
returns-clause-the_wrong_rule_breaks ctx = freed_when_given
