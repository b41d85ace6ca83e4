use Rattle.test_scenes.proofs.sessions_and_starts.Goals as goal
use Rattle.test_scenes.proofs.Starts.{ask_delivered_twice_comes_out, first_reason_comes_out}
use Rattle.test_scenes.proofs.Starts.{hand_outlives_the_session_comes_out, messages_before_the_session_is_up_comes_out}
use Rattle.test_scenes.proofs.Starts.{messages_without_a_mission_comes_out, messages_without_a_session_comes_out}
use Rattle.test_scenes.proofs.Starts.{nothing_happens_comes_out, request_without_train_data_comes_out}
use Rattle.test_scenes.proofs.Starts.{right_comes_comes_out, right_goes_back_comes_out, right_is_refused_comes_out}
use Rattle.test_scenes.proofs.Starts.{right_serves_a_later_start_comes_out, session_ends_comes_out}
use Rattle.test_scenes.proofs.Starts.{session_opens_again_comes_out, session_opens_comes_out}
use Rattle.test_scenes.proofs.Starts.{session_opens_over_a_session_comes_out, set_and_unset_comes_out}
use Rattle.test_scenes.proofs.Starts.{start_after_the_end_of_mission_comes_out, start_at_a_shut_section_comes_out}
use Rattle.test_scenes.proofs.Starts.{start_at_the_registrar_comes_out, trains_are_named_comes_out}
use Rattle.test_scenes.proofs.Starts.{unset_of_the_first_section_comes_out}

pub returns-clause-nothing_happens : goal.returns-clause-nothing_happens
returns-clause-nothing_happens c = nothing_happens_comes_out

pub returns-clause-set_and_unset : goal.returns-clause-set_and_unset
returns-clause-set_and_unset c = set_and_unset_comes_out

pub returns-clause-session_opens : goal.returns-clause-session_opens
returns-clause-session_opens c = session_opens_comes_out

pub returns-clause-session_opens_again : goal.returns-clause-session_opens_again
returns-clause-session_opens_again c = session_opens_again_comes_out

pub returns-clause-trains_are_named : goal.returns-clause-trains_are_named
returns-clause-trains_are_named c = trains_are_named_comes_out

pub returns-clause-session_opens_over_a_session : goal.returns-clause-session_opens_over_a_session
returns-clause-session_opens_over_a_session c = session_opens_over_a_session_comes_out

pub returns-clause-session_ends : goal.returns-clause-session_ends
returns-clause-session_ends c = session_ends_comes_out

pub returns-clause-messages_without_a_session : goal.returns-clause-messages_without_a_session
returns-clause-messages_without_a_session c = messages_without_a_session_comes_out

pub returns-clause-messages_before_the_session_is_up : goal.returns-clause-messages_before_the_session_is_up
returns-clause-messages_before_the_session_is_up c = messages_before_the_session_is_up_comes_out

pub returns-clause-messages_without_a_mission : goal.returns-clause-messages_without_a_mission
returns-clause-messages_without_a_mission c = messages_without_a_mission_comes_out

pub returns-clause-first_reason : goal.returns-clause-first_reason
returns-clause-first_reason c = first_reason_comes_out

pub returns-clause-start_at_the_registrar : goal.returns-clause-start_at_the_registrar
returns-clause-start_at_the_registrar c = start_at_the_registrar_comes_out

pub returns-clause-start_at_a_shut_section : goal.returns-clause-start_at_a_shut_section
returns-clause-start_at_a_shut_section c = start_at_a_shut_section_comes_out

pub returns-clause-request_without_train_data : goal.returns-clause-request_without_train_data
returns-clause-request_without_train_data c = request_without_train_data_comes_out

pub returns-clause-hand_outlives_the_session : goal.returns-clause-hand_outlives_the_session
returns-clause-hand_outlives_the_session c = hand_outlives_the_session_comes_out

pub returns-clause-start_after_the_end_of_mission : goal.returns-clause-start_after_the_end_of_mission
returns-clause-start_after_the_end_of_mission c = start_after_the_end_of_mission_comes_out

pub returns-clause-unset_of_the_first_section : goal.returns-clause-unset_of_the_first_section
returns-clause-unset_of_the_first_section c = unset_of_the_first_section_comes_out

pub returns-clause-right_comes : goal.returns-clause-right_comes
returns-clause-right_comes c = right_comes_comes_out

pub returns-clause-right_goes_back : goal.returns-clause-right_goes_back
returns-clause-right_goes_back c = right_goes_back_comes_out

pub returns-clause-right_serves_a_later_start : goal.returns-clause-right_serves_a_later_start
returns-clause-right_serves_a_later_start c = right_serves_a_later_start_comes_out

pub returns-clause-ask_delivered_twice : goal.returns-clause-ask_delivered_twice
returns-clause-ask_delivered_twice c = ask_delivered_twice_comes_out

pub returns-clause-right_is_refused : goal.returns-clause-right_is_refused
returns-clause-right_is_refused c = right_is_refused_comes_out
