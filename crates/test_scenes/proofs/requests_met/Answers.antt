use Rattle.test_scenes.proofs.requests_met.Goals as goal
use Rattle.test_scenes.proofs.RequestsMet.{asks_again_each_round_is_met, early_frame_is_met, end_at_standstill_is_met}
use Rattle.test_scenes.proofs.RequestsMet.{end_at_standstill_with_a_wish_is_met, end_at_the_end_of_the_hand_is_met}
use Rattle.test_scenes.proofs.RequestsMet.{end_before_the_hand_is_met, end_of_mission_is_met, end_of_the_track_is_met}
use Rattle.test_scenes.proofs.RequestsMet.{end_within_reach_of_the_message_is_met, hand_of_32_sections_is_met}
use Rattle.test_scenes.proofs.RequestsMet.{longest_authority_is_met, no_integrity_frees_nothing_is_met}
use Rattle.test_scenes.proofs.RequestsMet.{one_metre_too_far_is_met, report_clears_is_met}
use Rattle.test_scenes.proofs.RequestsMet.{request_asks_over_the_border_is_met, request_extends_over_the_border_is_met}

pub returns-clause-request_asks_over_the_border : goal.returns-clause-request_asks_over_the_border
returns-clause-request_asks_over_the_border c = request_asks_over_the_border_is_met

pub returns-clause-asks_again_each_round : goal.returns-clause-asks_again_each_round
returns-clause-asks_again_each_round c = asks_again_each_round_is_met

pub returns-clause-end_of_the_track : goal.returns-clause-end_of_the_track
returns-clause-end_of_the_track c = end_of_the_track_is_met

pub returns-clause-report_clears : goal.returns-clause-report_clears
returns-clause-report_clears c = report_clears_is_met

pub returns-clause-no_integrity_frees_nothing : goal.returns-clause-no_integrity_frees_nothing
returns-clause-no_integrity_frees_nothing c = no_integrity_frees_nothing_is_met

pub returns-clause-request_extends_over_the_border : goal.returns-clause-request_extends_over_the_border
returns-clause-request_extends_over_the_border c = request_extends_over_the_border_is_met

pub returns-clause-early_frame : goal.returns-clause-early_frame
returns-clause-early_frame c = early_frame_is_met

pub returns-clause-hand_of_32_sections : goal.returns-clause-hand_of_32_sections
returns-clause-hand_of_32_sections c = hand_of_32_sections_is_met

pub returns-clause-end_within_reach_of_the_message : goal.returns-clause-end_within_reach_of_the_message
returns-clause-end_within_reach_of_the_message c = end_within_reach_of_the_message_is_met

pub returns-clause-longest_authority : goal.returns-clause-longest_authority
returns-clause-longest_authority c = longest_authority_is_met

pub returns-clause-one_metre_too_far : goal.returns-clause-one_metre_too_far
returns-clause-one_metre_too_far c = one_metre_too_far_is_met

pub returns-clause-end_of_mission : goal.returns-clause-end_of_mission
returns-clause-end_of_mission c = end_of_mission_is_met

pub returns-clause-end_at_standstill : goal.returns-clause-end_at_standstill
returns-clause-end_at_standstill c = end_at_standstill_is_met

pub returns-clause-end_at_standstill_with_a_wish : goal.returns-clause-end_at_standstill_with_a_wish
returns-clause-end_at_standstill_with_a_wish c = end_at_standstill_with_a_wish_is_met

pub returns-clause-end_before_the_hand : goal.returns-clause-end_before_the_hand
returns-clause-end_before_the_hand c = end_before_the_hand_is_met

pub returns-clause-end_at_the_end_of_the_hand : goal.returns-clause-end_at_the_end_of_the_hand
returns-clause-end_at_the_end_of_the_hand c = end_at_the_end_of_the_hand_is_met
