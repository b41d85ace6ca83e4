use Rattle.law_mutants.proofs.Broken.{lost_then, taken_before}
use Rattle.law_mutants.proofs.Kept.{still_taken}
use Rattle.law_mutants.proofs.laws.no_older_cancel_ends_a_newer_handover.Goals as goal

pub returns-clause-the_rule_keeps : goal.returns-clause-the_rule_keeps
returns-clause-the_rule_keeps ctx line c d older number t place hand k apart may =
    still_taken line c d older number t place hand k apart may

pub returns-clause-the_wrong_rule_breaks : goal.returns-clause-the_wrong_rule_breaks
returns-clause-the_wrong_rule_breaks ctx = (taken_before, lost_then)
