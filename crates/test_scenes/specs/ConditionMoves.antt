-- Scenes of single conditions as moves of the one line centre.
use Rattle.std.specs.List.{range_with_len}
use Rattle.std.specs.Prelude.{[], ◌++◌, ◌∷◌, List, map, None, Some}
use Rattle.rbc_spec.specs.Message.{EndOfMission, InitiationOfSession, Report, Request, SessionEstablished}
use Rattle.rbc_spec.specs.Message.{ShorteningGranted, TerminationOfSession}
use Rattle.rbc_spec.specs.Quiet.{Keep, LayDown, Order, Propose, TakeUp, Unkeep}
use Rattle.rbc_spec.specs.World.{Delivery, Set, Unset}
use Rattle.test_scenes.specs.Conditions.{two_sections}
use Rattle.test_scenes.specs.Moves.{Move}
use Rattle.test_scenes.specs.Scene.{at, Happens, in_section_1, moving, session, sets, train}
use Rattle.test_scenes.specs.SceneMoves.{announced_moves, asks_before_3, extends, first_authority, followed}
use Rattle.test_scenes.specs.SceneMoves.{over_the_border_moves, plain, reports_to_b, route_moves, to_the_border_moves}

-- section 2 is wished back, and the train is asked to shorten its authority to the start of section 2
abbrev pub asks_before_2 : List Move
asks_before_2 = followed (Happens (Unset 0 2)) (Propose 1 0 2 ∷ [])

abbrev pub unset_without_a_session_moves : List Move
unset_without_a_session_moves =
    plain (two_sections
    ++ train 1 0 5 TerminationOfSession ∷ Happens (Unset 0 2) ∷ train 1 0 6 InitiationOfSession ∷ Happens (Unset 0 2)
    ∷ train 1 0 7 SessionEstablished ∷ [])
    ++ asks_before_2

abbrev pub unset_again_moves : List Move
unset_again_moves = plain two_sections ++ asks_before_2 ++ plain (Happens (Unset 0 2) ∷ [])

abbrev pub front_before_the_hand_moves : List Move
front_before_the_hand_moves =
    plain (two_sections ++ train 1 0 5 (Report (at 100 300 None)) ∷ Happens (Unset 0 1) ∷ []) ++ asks_before_2

abbrev pub front_in_the_section_moves : List Move
front_in_the_section_moves =
    to_the_border_moves ++ plain (train 1 0 6 (Report (at 102 210 None)) ∷ Happens (Unset 0 2) ∷ []) ++ asks_before_3

abbrev pub section_out_of_reach_moves : List Move
section_out_of_reach_moves =
    plain (sets 0 0 20)
    ++ first_authority (at 102 600 (Some 200)) 15
    ++ plain (train 1 0 6 (Report (at 100 4600 (Some 200))) ∷ Happens (Unset 0 17) ∷ [])
    ++ followed (Happens (Unset 0 16)) (Propose 1 0 16 ∷ [])

abbrev pub yield_with_a_pool_moves : List Move
yield_with_a_pool_moves =
    over_the_border_moves
    ++ plain (Happens (Set 1 7) ∷ Happens (Delivery 0 1 2) ∷ [])
    ++ followed (Happens (Delivery 0 1 3)) (Keep 1 7 ∷ [])
    ++ plain (Happens (Delivery 1 0 2) ∷ [])
    ++ reports_to_b 7
    ++ followed (Happens (Delivery 1 0 3)) (LayDown 1 0 ∷ [])
    ++ followed (Happens (Delivery 0 1 4)) (Unkeep 1 7 ∷ [])
    ++ followed (Happens (Delivery 0 1 5)) (TakeUp 1 1 ∷ [])

abbrev pub cut_with_a_pool_moves : List Move
cut_with_a_pool_moves =
    route_moves
    ++ plain (Happens (Delivery 1 0 1) ∷ [])
    ++ asks_before_3
    ++ plain (train 1 0 6 (ShorteningGranted 5 in_section_1) ∷ [])
    ++ followed (Happens (Delivery 0 1 2)) (Unkeep 1 4 ∷ Unkeep 1 5 ∷ Unkeep 1 6 ∷ [])

abbrev pub cut_beyond_the_border_moves : List Move
cut_beyond_the_border_moves =
    announced_moves
    ++ plain (Happens (Unset 1 5) ∷ Happens (Delivery 1 0 2) ∷ [])
    ++ followed (Happens (Delivery 1 0 3)) (Propose 1 0 5 ∷ [])
    ++ plain (train 1 0 7 (ShorteningGranted 7 in_section_1) ∷ [])
    ++ followed (Happens (Delivery 0 1 4)) (Unkeep 1 5 ∷ Unkeep 1 6 ∷ [])

abbrev pub proposal_ends_with_the_session_moves : List Move
proposal_ends_with_the_session_moves =
    plain two_sections ++ asks_before_2 ++ plain (session 1 0 5 ++ train 1 0 7 (ShorteningGranted 3 in_section_1) ∷ [])
    ++ asks_before_2

abbrev pub request_again_over_the_border_moves : List Move
request_again_over_the_border_moves = over_the_border_moves ++ extends 0 (train 1 0 7 (Request in_section_1)) []

abbrev pub request_while_asked_moves : List Move
request_while_asked_moves =
    plain (sets 0 1 3) ++ first_authority in_section_1 2 ++ extends 0 (train 1 0 6 (Request in_section_1)) []

abbrev pub full_hand_at_the_border_moves : List Move
full_hand_at_the_border_moves = plain (sets 0 0 32) ++ first_authority (at 100 60 (Some 40)) 31

-- ten sections are kept, and six of them are given
abbrev pub pool_out_of_reach_moves : List Move
pool_out_of_reach_moves =
    plain (sets 0 0 10 ++ sets 1 10 10)
    ++ first_authority (at 100 600 (Some 200)) 9
    ++ followed (Happens (Delivery 0 1 1)) (map (Keep 1) (range_with_len 10 10))
    ++ plain (Happens (Delivery 1 0 1) ∷ [])
    ++ extends 6 (train 1 0 6 (Request (at 100 600 (Some 200)))) (Order 1 0 ∷ [])

abbrev pub proposal_ends_with_the_mission_moves : List Move
proposal_ends_with_the_mission_moves =
    plain two_sections
    ++ asks_before_2
    ++ plain (train 1 0 5 (EndOfMission (moving in_section_1)) ∷ train 1 0 6 (ShorteningGranted 3 in_section_1) ∷ [])
