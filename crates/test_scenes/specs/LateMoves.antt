-- Scenes of late frames and of three centres as moves of the one line centre.
use Rattle.std.specs.Prelude.{[], ◌++◌, ◌∷◌, List, Some, true}
use Rattle.rbc_spec.specs.Message.{EndOfMission, Report, Request, ShorteningGranted, StartOfMission, TrainData}
use Rattle.rbc_spec.specs.Quiet.{Admit, EndOrder, Keep, LayDown, Order, Propose, TakeUp, Unkeep}
use Rattle.rbc_spec.specs.World.{Delivery, Set, Unset}
use Rattle.test_scenes.specs.Moves.{Move}
use Rattle.test_scenes.specs.Scene.{at, Happens, in_section_1, moving, session, train}
use Rattle.test_scenes.specs.SceneMoves.{announced_moves, asks_before_3, extends, first_authority, followed, heard}
use Rattle.test_scenes.specs.SceneMoves.{over_the_border_moves, plain, rejected, reports_to_b, right_comes_moves}
use Rattle.test_scenes.specs.SceneMoves.{route_moves, to_the_border_moves}
use Rattle.test_scenes.specs.ThreeCentres.{in_section_2, in_section_3}

-- ## Late frames

abbrev pub withdrawn_from_the_pool_moves : List Move
withdrawn_from_the_pool_moves =
    route_moves
    ++ plain (Happens (Delivery 1 0 1) ∷ Happens (Unset 1 5) ∷ Happens (Delivery 1 0 2) ∷ [])
    ++ followed (Happens (Delivery 0 1 2)) (Unkeep 1 5 ∷ Unkeep 1 6 ∷ [])
    ++ extends 1 (train 1 0 6 (Request in_section_1)) (Order 1 0 ∷ [])

abbrev pub first_of_the_pool_withdrawn_moves : List Move
first_of_the_pool_withdrawn_moves =
    route_moves
    ++ plain (Happens (Delivery 1 0 1) ∷ Happens (Unset 1 4) ∷ Happens (Delivery 1 0 2) ∷ [])
    ++ followed (Happens (Delivery 0 1 2)) (Unkeep 1 4 ∷ Unkeep 1 5 ∷ Unkeep 1 6 ∷ [])
    ++ extends 0 (train 1 0 6 (Request in_section_1)) []

abbrev pub last_of_the_pool_withdrawn_moves : List Move
last_of_the_pool_withdrawn_moves =
    route_moves
    ++ plain (Happens (Delivery 1 0 1) ∷ Happens (Unset 1 6) ∷ Happens (Delivery 1 0 2) ∷ [])
    ++ followed (Happens (Delivery 0 1 2)) (Unkeep 1 6 ∷ [])
    ++ extends 2 (train 1 0 6 (Request in_section_1)) (Order 1 0 ∷ [])

abbrev pub route_for_an_ended_mission_moves : List Move
route_for_an_ended_mission_moves =
    route_moves
    ++ plain (train 1 0 6 (EndOfMission (moving in_section_1)) ∷ Happens (Delivery 1 0 1) ∷ [])
    ++ followed (Happens (Delivery 0 1 2)) (Unkeep 1 4 ∷ Unkeep 1 5 ∷ Unkeep 1 6 ∷ [])

abbrev pub end_of_mission_with_a_pool_moves : List Move
end_of_mission_with_a_pool_moves =
    route_moves ++ plain (Happens (Delivery 1 0 1) ∷ train 1 0 6 (EndOfMission (moving in_section_1)) ∷ [])

abbrev pub awaited_moves : List Move
awaited_moves =
    announced_moves
    ++ plain (session 1 1 7 ++ train 1 1 9 (Report in_section_1) ∷ train 1 1 9 (Request (at 104 100 (Some 200))) ∷ [])
    ++ heard (train 1 1 9 (Report (at 104 100 (Some 200))))
    ++ heard (train 1 1 10 (Report (at 104 150 (Some 200))))
    ++ plain (train 1 1 10 (Report (at 104 150 (Some 200))) ∷ [])

-- the route is kept for the train, is returned, and is given by the next supervisor
abbrev pub route_after_the_yield_moves : List Move
route_after_the_yield_moves =
    over_the_border_moves
    ++ plain (Happens (Set 1 7) ∷ Happens (Delivery 0 1 2) ∷ [])
    ++ reports_to_b 7
    ++ followed (Happens (Delivery 1 0 2)) (LayDown 1 0 ∷ [])
    ++ followed (Happens (Delivery 0 1 3)) (Keep 1 7 ∷ [])
    ++ followed (Happens (Delivery 0 1 4)) (TakeUp 1 1 ∷ [])
    ++ extends 0 (train 1 1 10 (Request (at 104 100 (Some 200)))) []
    ++ plain (Happens (Delivery 1 0 3) ∷ [])
    ++ followed (Happens (Delivery 0 1 5)) (Unkeep 1 7 ∷ [])
    ++ extends 1 (train 1 1 11 (Request (at 104 100 (Some 200)))) []

abbrev pub wish_at_the_yield_moves : List Move
wish_at_the_yield_moves =
    announced_moves
    ++ reports_to_b 7
    ++ plain (Happens (Unset 1 4) ∷ Happens (Unset 1 5) ∷ Happens (Delivery 1 0 2) ∷ [])
    ++ followed (Happens (Delivery 1 0 3)) (LayDown 1 0 ∷ [])
    ++ plain (Happens (Delivery 1 0 4) ∷ [])
    ++ followed (Happens (Delivery 0 1 4)) (TakeUp 1 1 ∷ Propose 1 1 4 ∷ [])
    ++ plain (train 1 1 10 (ShorteningGranted 2 in_section_1) ∷ [])

-- the start at B is rejected while the mission is at A, and while the right is on the way back
abbrev pub cleared_elsewhere_moves : List Move
cleared_elsewhere_moves =
    right_comes_moves
    ++ plain (Happens (Set 1 5) ∷ session 2 1 1)
    ++ rejected (train 2 1 3 (StartOfMission true (at 105 600 (Some 200))))
    ++ plain (train 2 0 4 (Report (at 102 210 (Some 200))) ∷ [])
    ++ rejected (train 2 1 4 (StartOfMission true (at 105 600 (Some 200))))
    ++ plain (Happens (Delivery 0 1 2) ∷ train 2 1 5 (StartOfMission true (at 105 600 (Some 200))) ∷ [])

abbrev pub cleared_with_a_pool_moves : List Move
cleared_with_a_pool_moves =
    route_moves ++ plain (Happens (Delivery 1 0 1) ∷ train 1 0 6 (Report (at 104 210 (Some 200))) ∷ [])

abbrev pub cleared_over_the_border_moves : List Move
cleared_over_the_border_moves =
    announced_moves
    ++ plain (session 1 1 7 ++ train 1 0 9 (Report (at 107 210 (Some 200))) ∷ [])
    ++ followed (Happens (Delivery 0 1 4)) (Unkeep 1 4 ∷ Unkeep 1 5 ∷ Unkeep 1 6 ∷ [])
    ++ plain (Happens (Delivery 0 1 5) ∷ train 1 1 10 (Report (at 107 210 (Some 200))) ∷ [])

abbrev pub whole_hand_is_cut_moves : List Move
whole_hand_is_cut_moves =
    to_the_border_moves ++ asks_before_3
    ++ plain (train 1 0 6 (Report (at 103 210 (Some 200))) ∷ train 1 0 7 (ShorteningGranted 5 in_section_1) ∷ [])

-- ## Three centres

-- from A to B
abbrev pub from_the_first_moves : List Move
from_the_first_moves =
    plain (Happens (Set 0 1) ∷ Happens (Set 1 2) ∷ Happens (Set 2 3) ∷ [])
    ++ first_authority in_section_1 0
    ++ followed (Happens (Delivery 0 1 1)) (Keep 1 2 ∷ [])
    ++ plain (Happens (Delivery 1 0 1) ∷ [])
    ++ extends 1 (train 1 0 6 (Request in_section_1)) (Order 1 0 ∷ [])

-- B takes the supervision up, and the hand is extended to C's first section
abbrev pub from_the_second_moves : List Move
from_the_second_moves =
    from_the_first_moves
    ++ plain (Happens (Delivery 0 1 2) ∷ session 1 1 7)
    ++ heard (train 1 1 9 (Report in_section_2))
    ++ followed (Happens (Delivery 1 0 2)) (LayDown 1 0 ∷ [])
    ++ followed (Happens (Delivery 0 1 3)) (TakeUp 1 1 ∷ [])
    ++ extends 0 (train 1 1 10 (Request in_section_2)) []
    ++ followed (Happens (Delivery 1 2 1)) (Keep 1 3 ∷ [])
    ++ plain (Happens (Delivery 2 1 1) ∷ [])
    ++ extends 1 (train 1 1 11 (Request in_section_2)) (Order 1 1 ∷ [])

-- C receives the announcement of the train, and takes over
abbrev pub to_the_third_moves : List Move
to_the_third_moves =
    from_the_second_moves
    ++ plain (Happens (Delivery 1 2 2) ∷ Happens (Delivery 1 2 3) ∷ session 1 2 12)
    ++ heard (train 1 2 14 (Report (at 103 50 (Some 200))))

-- B lays the supervision down
abbrev pub yielded_on_moves : List Move
yielded_on_moves =
    to_the_third_moves ++ plain (Happens (Delivery 2 1 2) ∷ [])
    ++ followed (Happens (Delivery 2 1 3)) (LayDown 1 1 ∷ [])

-- C takes the supervision up
abbrev pub yield_with_a_third_home_moves : List Move
yield_with_a_third_home_moves = yielded_on_moves ++ followed (Happens (Delivery 1 2 4)) (TakeUp 1 2 ∷ [])

abbrev pub each_home_gets_its_section_back_moves : List Move
each_home_gets_its_section_back_moves =
    yield_with_a_third_home_moves
    ++ plain (train 1 2 15 (Report in_section_3) ∷ [])
    ++ followed (Happens (Delivery 2 0 1)) (Unkeep 1 1 ∷ EndOrder 1 0 ∷ [])
    ++ followed (Happens (Delivery 2 1 4)) (Unkeep 1 2 ∷ EndOrder 1 1 ∷ [])

abbrev pub wish_at_a_third_centre_moves : List Move
wish_at_a_third_centre_moves =
    yield_with_a_third_home_moves
    ++ plain (Happens (Unset 0 1) ∷ Happens (Delivery 0 1 4) ∷ Happens (Delivery 0 2 1)
    ∷ train 1 2 15 (Report in_section_3) ∷ [])
    ++ followed (Happens (Delivery 2 0 1)) (Unkeep 1 1 ∷ EndOrder 1 0 ∷ [])

abbrev pub ended_mission_is_yielded_moves : List Move
ended_mission_is_yielded_moves =
    to_the_third_moves
    ++ plain (train 1 1 15 (EndOfMission (at 103 210 (Some 200))) ∷ Happens (Delivery 2 1 2) ∷ [])
    ++ followed (Happens (Delivery 2 1 3)) (LayDown 1 1 ∷ EndOrder 1 1 ∷ [])
    ++ followed (Happens (Delivery 1 2 4)) (TakeUp 1 2 ∷ [])
    ++ plain (train 1 2 15 (Request (at 103 210 (Some 200))) ∷ train 1 2 16 (Request (at 103 210 (Some 200))) ∷ [])

abbrev pub stands_still_before_the_third_moves : List Move
stands_still_before_the_third_moves =
    to_the_third_moves
    ++ plain (train 1 1 15 (EndOfMission in_section_2) ∷ Happens (Delivery 2 1 2) ∷ Happens (Delivery 2 1 3) ∷ [])
    ++ followed (Happens (Delivery 1 2 4)) (Unkeep 1 3 ∷ [])
    ++ plain (Happens (Delivery 1 2 5) ∷ [])

abbrev pub any_two_are_linked_moves : List Move
any_two_are_linked_moves =
    plain (Happens (Set 0 1) ∷ Happens (Set 1 2)
    ∷ (session 1 0 1 ++ train 1 0 3 (StartOfMission true in_section_1) ∷ Happens (Delivery 0 1 1) ∷ []))
    ++ followed (Happens (Delivery 1 0 1)) (Admit 1 0 ∷ [])
    ++ plain (train 1 0 4 (TrainData in_section_1) ∷ [])
    ++ extends 0 (train 1 0 5 (Request in_section_1)) []
    ++ followed (Happens (Delivery 0 1 2)) (Keep 1 2 ∷ [])
    ++ plain (Happens (Delivery 1 0 2) ∷ [])
    ++ extends 1 (train 1 0 6 (Request in_section_1)) (Order 1 0 ∷ [])
    ++ plain (Happens (Delivery 0 1 3) ∷ session 1 1 7)
    ++ heard (train 1 1 9 (Report in_section_2))
    ++ followed (Happens (Delivery 1 0 3)) (LayDown 1 0 ∷ [])
    ++ plain (Happens (Unset 0 1) ∷ Happens (Delivery 0 2 1) ∷ [])
