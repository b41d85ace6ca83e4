use Rattle.law_mutants.proofs.Broken.{heard_again, heard_before}
use Rattle.law_mutants.proofs.Kept.{stays_stale}
use Rattle.law_mutants.proofs.laws.no_older_stamp_is_kept.Goals as goal

pub returns-clause-the_rule_keeps : goal.returns-clause-the_rule_keeps
returns-clause-the_rule_keeps ctx line c d t heard stamp m k old = stays_stale line c d t heard m k stamp old

pub returns-clause-the_wrong_rule_breaks : goal.returns-clause-the_wrong_rule_breaks
returns-clause-the_wrong_rule_breaks ctx = (heard_before, heard_again)
