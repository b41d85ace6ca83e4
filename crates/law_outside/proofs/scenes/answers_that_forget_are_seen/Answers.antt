use Rattle.law_outside.proofs.scenes.answers_that_forget_are_seen.Goals as goal
use Rattle.law_outside.proofs.Seen.{advance_is_not_safe, another_is_not_safe, before_is_not_safe, late_is_not_safe}
use Rattle.law_outside.proofs.Seen.{rejected_is_not_safe, shortened_is_not_safe}

pub returns-clause-shortened_by_an_authority : goal.returns-clause-shortened_by_an_authority
returns-clause-shortened_by_an_authority c = shortened_is_not_safe

pub returns-clause-granted_before_it_was_told : goal.returns-clause-granted_before_it_was_told
returns-clause-granted_before_it_was_told c = before_is_not_safe

pub returns-clause-a_late_report : goal.returns-clause-a_late_report
returns-clause-a_late_report c = late_is_not_safe

pub returns-clause-accepted_in_advance : goal.returns-clause-accepted_in_advance
returns-clause-accepted_in_advance c = advance_is_not_safe

pub returns-clause-another_is_done : goal.returns-clause-another_is_done
returns-clause-another_is_done c = another_is_not_safe

pub returns-clause-accepted_after_a_rejection : goal.returns-clause-accepted_after_a_rejection
returns-clause-accepted_after_a_rejection c = rejected_is_not_safe
