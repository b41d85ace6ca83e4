use Rattle.test_scenes.proofs.Limits.{asks_for_a_full_hand, asks_for_no_513th_section, four_numbers_left}
use Rattle.test_scenes.proofs.Limits.{frame_without_a_link_comes_out, last_stamp_is_taken_comes_out}
use Rattle.test_scenes.proofs.Limits.{set_and_session_comes_out, stamp_past_the_last_comes_out, three_numbers_left}
use Rattle.test_scenes.proofs.refused_steps.Goals as goal

pub returns-clause-last_stamp : goal.returns-clause-last_stamp
returns-clause-last_stamp c = last_stamp_is_taken_comes_out

pub returns-clause-past_the_last : goal.returns-clause-past_the_last
returns-clause-past_the_last c = stamp_past_the_last_comes_out

pub returns-clause-no_link : goal.returns-clause-no_link
returns-clause-no_link c = frame_without_a_link_comes_out

pub returns-clause-three_numbers_left : goal.returns-clause-three_numbers_left
returns-clause-three_numbers_left c = three_numbers_left

pub returns-clause-four_numbers_left : goal.returns-clause-four_numbers_left
returns-clause-four_numbers_left c = four_numbers_left

pub returns-clause-whole_run : goal.returns-clause-whole_run
returns-clause-whole_run c = set_and_session_comes_out

pub returns-clause-full_hand : goal.returns-clause-full_hand
returns-clause-full_hand c = asks_for_a_full_hand

pub returns-clause-last_section : goal.returns-clause-last_section
returns-clause-last_section c = asks_for_no_513th_section
