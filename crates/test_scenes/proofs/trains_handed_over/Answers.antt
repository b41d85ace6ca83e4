use Rattle.test_scenes.proofs.Handover.{cancelled_before_taking_over_comes_out, handover_comes_out}
use Rattle.test_scenes.proofs.Handover.{return_after_handover_comes_out, yield_carries_the_last_stamp_heard_comes_out}
use Rattle.test_scenes.proofs.trains_handed_over.Goals as goal

pub returns-clause-handover : goal.returns-clause-handover
returns-clause-handover c = handover_comes_out

pub returns-clause-return_after_handover : goal.returns-clause-return_after_handover
returns-clause-return_after_handover c = return_after_handover_comes_out

pub returns-clause-yield_carries_the_last_stamp_heard : goal.returns-clause-yield_carries_the_last_stamp_heard
returns-clause-yield_carries_the_last_stamp_heard c = yield_carries_the_last_stamp_heard_comes_out

pub returns-clause-cancelled_before_taking_over : goal.returns-clause-cancelled_before_taking_over
returns-clause-cancelled_before_taking_over c = cancelled_before_taking_over_comes_out
