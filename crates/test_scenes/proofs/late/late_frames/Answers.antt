use Rattle.test_scenes.proofs.late.late_frames.Goals as goal
use Rattle.test_scenes.proofs.Races.{awaited_comes_out, cleared_elsewhere_comes_out, cleared_over_the_border_comes_out}
use Rattle.test_scenes.proofs.Races.{cleared_with_a_pool_comes_out, end_of_mission_with_a_pool_comes_out}
use Rattle.test_scenes.proofs.Races.{first_of_the_pool_withdrawn_comes_out, last_of_the_pool_withdrawn_comes_out}
use Rattle.test_scenes.proofs.Races.{route_after_the_yield_comes_out, route_for_an_ended_mission_comes_out}
use Rattle.test_scenes.proofs.Races.{session_opens_over_a_waiting_start_comes_out, whole_hand_is_cut_comes_out}
use Rattle.test_scenes.proofs.Races.{wish_at_the_yield_comes_out, withdrawn_from_the_pool_comes_out}

pub returns-clause-withdrawn_from_the_pool : goal.returns-clause-withdrawn_from_the_pool
returns-clause-withdrawn_from_the_pool c = withdrawn_from_the_pool_comes_out

pub returns-clause-first_of_the_pool_withdrawn : goal.returns-clause-first_of_the_pool_withdrawn
returns-clause-first_of_the_pool_withdrawn c = first_of_the_pool_withdrawn_comes_out

pub returns-clause-last_of_the_pool_withdrawn : goal.returns-clause-last_of_the_pool_withdrawn
returns-clause-last_of_the_pool_withdrawn c = last_of_the_pool_withdrawn_comes_out

pub returns-clause-route_for_an_ended_mission : goal.returns-clause-route_for_an_ended_mission
returns-clause-route_for_an_ended_mission c = route_for_an_ended_mission_comes_out

pub returns-clause-end_of_mission_with_a_pool : goal.returns-clause-end_of_mission_with_a_pool
returns-clause-end_of_mission_with_a_pool c = end_of_mission_with_a_pool_comes_out

pub returns-clause-awaited : goal.returns-clause-awaited
returns-clause-awaited c = awaited_comes_out

pub returns-clause-route_after_the_yield : goal.returns-clause-route_after_the_yield
returns-clause-route_after_the_yield c = route_after_the_yield_comes_out

pub returns-clause-wish_at_the_yield : goal.returns-clause-wish_at_the_yield
returns-clause-wish_at_the_yield c = wish_at_the_yield_comes_out

pub returns-clause-cleared_elsewhere : goal.returns-clause-cleared_elsewhere
returns-clause-cleared_elsewhere c = cleared_elsewhere_comes_out

pub returns-clause-cleared_with_a_pool : goal.returns-clause-cleared_with_a_pool
returns-clause-cleared_with_a_pool c = cleared_with_a_pool_comes_out

pub returns-clause-cleared_over_the_border : goal.returns-clause-cleared_over_the_border
returns-clause-cleared_over_the_border c = cleared_over_the_border_comes_out

pub returns-clause-whole_hand_is_cut : goal.returns-clause-whole_hand_is_cut
returns-clause-whole_hand_is_cut c = whole_hand_is_cut_comes_out

pub returns-clause-session_opens_over_a_waiting_start : goal.returns-clause-session_opens_over_a_waiting_start
returns-clause-session_opens_over_a_waiting_start c = session_opens_over_a_waiting_start_comes_out
