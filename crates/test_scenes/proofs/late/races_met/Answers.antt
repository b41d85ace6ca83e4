use Rattle.test_scenes.proofs.late.races_met.Goals as goal
use Rattle.test_scenes.proofs.RacesMet.{awaited_is_met, cleared_elsewhere_is_met, cleared_over_the_border_is_met}
use Rattle.test_scenes.proofs.RacesMet.{cleared_with_a_pool_is_met, end_of_mission_with_a_pool_is_met}
use Rattle.test_scenes.proofs.RacesMet.{first_of_the_pool_withdrawn_is_met, last_of_the_pool_withdrawn_is_met}
use Rattle.test_scenes.proofs.RacesMet.{route_after_the_yield_is_met, route_for_an_ended_mission_is_met}
use Rattle.test_scenes.proofs.RacesMet.{session_opens_over_a_waiting_start_is_met, whole_hand_is_cut_is_met}
use Rattle.test_scenes.proofs.RacesMet.{wish_at_the_yield_is_met, withdrawn_from_the_pool_is_met}

pub returns-clause-withdrawn_from_the_pool : goal.returns-clause-withdrawn_from_the_pool
returns-clause-withdrawn_from_the_pool c = withdrawn_from_the_pool_is_met

pub returns-clause-first_of_the_pool_withdrawn : goal.returns-clause-first_of_the_pool_withdrawn
returns-clause-first_of_the_pool_withdrawn c = first_of_the_pool_withdrawn_is_met

pub returns-clause-last_of_the_pool_withdrawn : goal.returns-clause-last_of_the_pool_withdrawn
returns-clause-last_of_the_pool_withdrawn c = last_of_the_pool_withdrawn_is_met

pub returns-clause-route_for_an_ended_mission : goal.returns-clause-route_for_an_ended_mission
returns-clause-route_for_an_ended_mission c = route_for_an_ended_mission_is_met

pub returns-clause-end_of_mission_with_a_pool : goal.returns-clause-end_of_mission_with_a_pool
returns-clause-end_of_mission_with_a_pool c = end_of_mission_with_a_pool_is_met

pub returns-clause-awaited : goal.returns-clause-awaited
returns-clause-awaited c = awaited_is_met

pub returns-clause-route_after_the_yield : goal.returns-clause-route_after_the_yield
returns-clause-route_after_the_yield c = route_after_the_yield_is_met

pub returns-clause-wish_at_the_yield : goal.returns-clause-wish_at_the_yield
returns-clause-wish_at_the_yield c = wish_at_the_yield_is_met

pub returns-clause-cleared_elsewhere : goal.returns-clause-cleared_elsewhere
returns-clause-cleared_elsewhere c = cleared_elsewhere_is_met

pub returns-clause-cleared_with_a_pool : goal.returns-clause-cleared_with_a_pool
returns-clause-cleared_with_a_pool c = cleared_with_a_pool_is_met

pub returns-clause-cleared_over_the_border : goal.returns-clause-cleared_over_the_border
returns-clause-cleared_over_the_border c = cleared_over_the_border_is_met

pub returns-clause-whole_hand_is_cut : goal.returns-clause-whole_hand_is_cut
returns-clause-whole_hand_is_cut c = whole_hand_is_cut_is_met

pub returns-clause-session_opens_over_a_waiting_start : goal.returns-clause-session_opens_over_a_waiting_start
returns-clause-session_opens_over_a_waiting_start c = session_opens_over_a_waiting_start_is_met
