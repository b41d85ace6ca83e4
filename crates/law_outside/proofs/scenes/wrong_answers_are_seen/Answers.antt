use Rattle.law_outside.proofs.scenes.wrong_answers_are_seen.Goals as goal
use Rattle.law_outside.proofs.Seen.{had_back_is_not_safe, longer_is_not_safe, out_of_nothing_is_not_safe}
use Rattle.law_outside.proofs.Seen.{over_a_start_is_not_safe}

pub returns-clause-longer_than_the_hand : goal.returns-clause-longer_than_the_hand
returns-clause-longer_than_the_hand c = longer_is_not_safe

pub returns-clause-over_a_waiting_start : goal.returns-clause-over_a_waiting_start
returns-clause-over_a_waiting_start c = over_a_start_is_not_safe

pub returns-clause-unset_of_a_kept_section : goal.returns-clause-unset_of_a_kept_section
returns-clause-unset_of_a_kept_section c = had_back_is_not_safe

pub returns-clause-out_of_nothing : goal.returns-clause-out_of_nothing
returns-clause-out_of_nothing c = out_of_nothing_is_not_safe
