use Rattle.test_scenes.proofs.HandoverMet.{cancelled_before_taking_over_is_met, handover_is_met}
use Rattle.test_scenes.proofs.HandoverMet.{return_after_handover_is_met, yield_carries_the_last_stamp_heard_is_met}
use Rattle.test_scenes.proofs.handovers_met.Goals as goal

pub returns-clause-handover : goal.returns-clause-handover
returns-clause-handover c = handover_is_met

pub returns-clause-return_after_handover : goal.returns-clause-return_after_handover
returns-clause-return_after_handover c = return_after_handover_is_met

pub returns-clause-yield_carries_the_last_stamp_heard : goal.returns-clause-yield_carries_the_last_stamp_heard
returns-clause-yield_carries_the_last_stamp_heard c = yield_carries_the_last_stamp_heard_is_met

pub returns-clause-cancelled_before_taking_over : goal.returns-clause-cancelled_before_taking_over
returns-clause-cancelled_before_taking_over c = cancelled_before_taking_over_is_met
