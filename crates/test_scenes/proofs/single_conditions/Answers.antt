use Rattle.test_scenes.proofs.Conditions.{cut_beyond_the_border_comes_out, cut_with_a_pool_comes_out}
use Rattle.test_scenes.proofs.Conditions.{front_before_the_hand_comes_out, front_in_the_section_comes_out}
use Rattle.test_scenes.proofs.Conditions.{full_hand_at_the_border_comes_out, pool_out_of_reach_comes_out}
use Rattle.test_scenes.proofs.Conditions.{proposal_ends_with_the_mission_comes_out}
use Rattle.test_scenes.proofs.Conditions.{proposal_ends_with_the_session_comes_out}
use Rattle.test_scenes.proofs.Conditions.{request_again_over_the_border_comes_out, request_while_asked_comes_out}
use Rattle.test_scenes.proofs.Conditions.{section_out_of_reach_comes_out, start_outside_the_hand_comes_out}
use Rattle.test_scenes.proofs.Conditions.{unset_after_the_end_comes_out, unset_again_comes_out}
use Rattle.test_scenes.proofs.Conditions.{unset_without_a_session_comes_out, yield_with_a_pool_comes_out}
use Rattle.test_scenes.proofs.single_conditions.Goals as goal

pub returns-clause-unset_without_a_session : goal.returns-clause-unset_without_a_session
returns-clause-unset_without_a_session c = unset_without_a_session_comes_out

pub returns-clause-unset_after_the_end : goal.returns-clause-unset_after_the_end
returns-clause-unset_after_the_end c = unset_after_the_end_comes_out

pub returns-clause-unset_again : goal.returns-clause-unset_again
returns-clause-unset_again c = unset_again_comes_out

pub returns-clause-front_before_the_hand : goal.returns-clause-front_before_the_hand
returns-clause-front_before_the_hand c = front_before_the_hand_comes_out

pub returns-clause-front_in_the_section : goal.returns-clause-front_in_the_section
returns-clause-front_in_the_section c = front_in_the_section_comes_out

pub returns-clause-section_out_of_reach : goal.returns-clause-section_out_of_reach
returns-clause-section_out_of_reach c = section_out_of_reach_comes_out

pub returns-clause-yield_with_a_pool : goal.returns-clause-yield_with_a_pool
returns-clause-yield_with_a_pool c = yield_with_a_pool_comes_out

pub returns-clause-cut_with_a_pool : goal.returns-clause-cut_with_a_pool
returns-clause-cut_with_a_pool c = cut_with_a_pool_comes_out

pub returns-clause-cut_beyond_the_border : goal.returns-clause-cut_beyond_the_border
returns-clause-cut_beyond_the_border c = cut_beyond_the_border_comes_out

pub returns-clause-proposal_ends_with_the_session : goal.returns-clause-proposal_ends_with_the_session
returns-clause-proposal_ends_with_the_session c = proposal_ends_with_the_session_comes_out

pub returns-clause-start_outside_the_hand : goal.returns-clause-start_outside_the_hand
returns-clause-start_outside_the_hand c = start_outside_the_hand_comes_out

pub returns-clause-request_again_over_the_border : goal.returns-clause-request_again_over_the_border
returns-clause-request_again_over_the_border c = request_again_over_the_border_comes_out

pub returns-clause-request_while_asked : goal.returns-clause-request_while_asked
returns-clause-request_while_asked c = request_while_asked_comes_out

pub returns-clause-full_hand_at_the_border : goal.returns-clause-full_hand_at_the_border
returns-clause-full_hand_at_the_border c = full_hand_at_the_border_comes_out

pub returns-clause-pool_out_of_reach : goal.returns-clause-pool_out_of_reach
returns-clause-pool_out_of_reach c = pool_out_of_reach_comes_out

pub returns-clause-proposal_ends_with_the_mission : goal.returns-clause-proposal_ends_with_the_mission
returns-clause-proposal_ends_with_the_mission c = proposal_ends_with_the_mission_comes_out
