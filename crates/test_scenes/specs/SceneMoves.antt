-- Scenes of starts, requests, shortenings and handovers as moves of the one line centre. Each move is an event and the
-- quiet steps of the line centre after it.
use Rattle.std.specs.List.{flat_map}
use Rattle.std.specs.Prelude.{[], ◌++◌, ◌+◌, ◌∷◌, Err, List, None, Some, true, ℕ}
use Rattle.rbc_spec.specs.Message.{EndOfMission, InitiationOfSession, Report, Request, SessionEstablished}
use Rattle.rbc_spec.specs.Message.{ShorteningGranted, ShorteningRejected, StartOfMission, TerminationOfSession}
use Rattle.rbc_spec.specs.Message.{TrainData}
use Rattle.rbc_spec.specs.Place.{Position}
use Rattle.rbc_spec.specs.Quiet.{Admit, Dismiss, EndOrder, Keep, LayDown, Order, Propose, Quiet, TakeUp, Unkeep}
use Rattle.rbc_spec.specs.World.{Bytes, Delivery, Set, Unset}
use Rattle.test_scenes.specs.Moves.{Move}
use Rattle.test_scenes.specs.Scene.{at, Happens, in_section_1, moving, Scene, session, sets, train}
use Rattle.test_scenes.specs.Starts.{start, start_elsewhere}
use Rattle.test_scenes.specs.Turns.{Choice, Extending, Listening, Plainly, Rejecting, Unanswered}

-- the events of a scene, taken this way and followed by these quiet steps
abbrev pub move : Choice → List Quiet → Scene → List Move
move choice quiets (Happens event) = record { event = event; choice = choice; quiets = quiets } ∷ []
move choice quiets other = []

-- events that the line centre meets by its own steps only
abbrev pub plain : List Scene → List Move
plain scenes = flat_map (move Plainly []) scenes

-- an event that quiet steps follow
abbrev pub followed : Scene → List Quiet → List Move
followed scene quiets = move Plainly quiets scene

-- a request by which the hand is extended by this many sections, and the quiet steps after it
abbrev pub extends : ℕ → Scene → List Quiet → List Move
extends count scene quiets = move (Extending count) quiets scene

-- a report of a train that is not supervised there, which the line centre listens to
abbrev pub heard : Scene → List Move
heard scene = move Listening [] scene

-- a start at the registrar that is rejected, since the right is elsewhere
abbrev pub rejected : Scene → List Move
rejected scene = move Rejecting [] scene

-- an event that changes nothing
abbrev pub unanswered : Scene → List Move
unanswered scene = move Unanswered [] scene

-- ## Starts of mission

abbrev pub trains_are_named_moves : List Move
trains_are_named_moves =
    plain (train 3 0 1 InitiationOfSession ∷ [])
    ++ unanswered (train 1 2 1 InitiationOfSession)
    ++ unanswered (Happens (Bytes 0 (Err 3)))
    ++ unanswered (Happens (Bytes 2 (Err 3)))
    ++ plain (train 2 1 1 SessionEstablished ∷ train 1 0 1 InitiationOfSession ∷ train 2 0 1 InitiationOfSession ∷ [])

abbrev pub start_moves : List Move
start_moves = plain start

-- train 2 is admitted when its right has arrived from B
abbrev pub right_comes_moves : List Move
right_comes_moves = plain start_elsewhere ++ followed (Happens (Delivery 1 0 1)) (Admit 2 0 ∷ [])

abbrev pub right_serves_a_later_start_moves : List Move
right_serves_a_later_start_moves =
    plain (start_elsewhere ++ train 2 0 4 TerminationOfSession
    ∷ (session 2 0 5 ++ train 2 0 7 (StartOfMission true in_section_1) ∷ []))
    ++ followed (Happens (Delivery 1 0 1)) (Admit 2 0 ∷ [])

abbrev pub ask_delivered_twice_moves : List Move
ask_delivered_twice_moves =
    plain (start_elsewhere ++ Happens (Delivery 0 1 1) ∷ []) ++ unanswered (Happens (Delivery 0 1 2))

-- train 1 has a mission at A, and its start at B is dismissed
abbrev pub right_is_refused_moves : List Move
right_is_refused_moves =
    start_moves
    ++ plain (Happens (Set 1 5)
    ∷ (session 1 1 20 ++ train 1 1 22 (StartOfMission true (at 105 600 (Some 200))) ∷ Happens (Delivery 1 0 1) ∷ []))
    ++ followed (Happens (Delivery 0 1 1)) (Dismiss 1 1 ∷ [])

-- ## Requests and reports

-- train 1 starts at a position, and its hand is extended by this many sections
abbrev pub first_authority : Position → ℕ → List Move
first_authority position count =
    plain (session 1 0 1 ++ train 1 0 3 (StartOfMission true position) ∷ train 1 0 4 (TrainData position) ∷ [])
    ++ extends count (train 1 0 5 (Request position)) []

-- up to the border: B has no section to lend
abbrev pub to_the_border_moves : List Move
to_the_border_moves = plain (sets 0 1 3) ++ first_authority in_section_1 2 ++ plain (Happens (Delivery 0 1 1) ∷ [])

-- the question, its answer and the next request change nothing
abbrev pub round_moves : (k t_train : ℕ) → List Move
round_moves k t_train =
    plain (Happens (Delivery 0 1 k) ∷ Happens (Delivery 1 0 k) ∷ [])
    ++ extends 0 (train 1 0 t_train (Request in_section_1)) []

abbrev pub asks_again_each_round_moves : List Move
asks_again_each_round_moves =
    plain (sets 0 1 3) ++ first_authority in_section_1 2 ++ round_moves 1 6 ++ round_moves 2 7 ++ round_moves 3 8

abbrev pub end_of_the_track_moves : List Move
end_of_the_track_moves = plain (sets 0 1 1 ++ sets 1 2 2) ++ first_authority in_section_1 0

abbrev pub report_clears_moves : List Move
report_clears_moves = to_the_border_moves ++ plain (train 1 0 6 (Report (at 102 210 (Some 200))) ∷ [])

abbrev pub no_integrity_moves : List Move
no_integrity_moves = to_the_border_moves ++ plain (train 1 0 6 (Report (at 102 210 None)) ∷ [])

-- B lends three sections, which are kept for the train
abbrev pub route_moves : List Move
route_moves =
    plain (sets 0 1 3 ++ sets 1 4 3) ++ first_authority in_section_1 2
    ++ followed (Happens (Delivery 0 1 1)) (Keep 1 4 ∷ Keep 1 5 ∷ Keep 1 6 ∷ [])

-- the next request gives the kept sections to the train, and it is ordered to B
abbrev pub over_the_border_moves : List Move
over_the_border_moves =
    route_moves ++ plain (Happens (Delivery 1 0 1) ∷ [])
    ++ extends 3 (train 1 0 6 (Request in_section_1)) (Order 1 0 ∷ [])

abbrev pub early_frame_moves : List Move
early_frame_moves =
    over_the_border_moves
    ++ plain (Happens (Delivery 0 1 3) ∷ [])
    ++ unanswered (Happens (Delivery 0 1 9))
    ++ plain (Happens (Delivery 0 1 2) ∷ Happens (Delivery 0 1 3) ∷ Happens (Delivery 0 1 3) ∷ Happens (Delivery 0 1 1)
    ∷ [])

abbrev pub hand_of_32_sections_moves : List Move
hand_of_32_sections_moves = plain (sets 0 0 40) ++ first_authority (at 101 60 (Some 40)) 31

abbrev pub end_within_reach_of_the_message_moves : List Move
end_within_reach_of_the_message_moves = plain (sets 0 0 20) ++ first_authority (at 100 600 (Some 200)) 15

abbrev pub longest_authority_moves : List Move
longest_authority_moves = plain (sets 0 0 17) ++ first_authority (at 100 600 (Some 200)) 16

abbrev pub one_metre_too_far_moves : List Move
one_metre_too_far_moves = plain (sets 0 0 17) ++ first_authority (at 100 600 (Some 200)) 15

abbrev pub end_of_mission_moves : List Move
end_of_mission_moves = over_the_border_moves ++ plain (train 1 0 7 (EndOfMission (moving (at 102 210 (Some 200)))) ∷ [])

-- the lent sections are returned to B
abbrev pub lent_come_home : List Move
lent_come_home = followed (Happens (Delivery 0 1 4)) (Unkeep 1 4 ∷ Unkeep 1 5 ∷ Unkeep 1 6 ∷ [])

abbrev pub ends_at_standstill : List Move
ends_at_standstill =
    plain (train 1 0 7 (EndOfMission (at 102 210 (Some 200))) ∷ Happens (Delivery 0 1 2) ∷ Happens (Delivery 0 1 3)
    ∷ []) ++ lent_come_home

abbrev pub end_at_standstill_moves : List Move
end_at_standstill_moves =
    over_the_border_moves ++ ends_at_standstill
    ++ plain (Happens (Delivery 0 1 5) ∷ (session 1 1 8 ++ train 1 1 10 (Report (at 104 100 (Some 200))) ∷ []))

abbrev pub end_at_standstill_with_a_wish_moves : List Move
end_at_standstill_with_a_wish_moves = over_the_border_moves ++ plain (Happens (Unset 1 5) ∷ []) ++ ends_at_standstill

abbrev pub end_before_the_hand_moves : List Move
end_before_the_hand_moves = over_the_border_moves ++ plain (train 1 0 7 (EndOfMission (at 100 600 (Some 200))) ∷ [])

abbrev pub end_at_the_end_of_the_hand_moves : List Move
end_at_the_end_of_the_hand_moves = over_the_border_moves ++ plain (train 1 0 7 (EndOfMission (at 106 600 None)) ∷ [])

-- ## Shortening

abbrev pub unset_in_a_hand_moves : List Move
unset_in_a_hand_moves =
    plain (sets 0 1 2 ++ session 1 0 1
    ++ train 1 0 3 (StartOfMission true (at 102 600 (Some 700))) ∷ train 1 0 4 (Report in_section_1) ∷ [])
    ++ followed (Happens (Unset 0 2)) (Propose 1 0 2 ∷ [])

-- section 3 is wished back, and the train is asked to shorten its authority before it
abbrev pub asks_before_3 : List Move
asks_before_3 = followed (Happens (Unset 0 3)) (Propose 1 0 3 ∷ [])

abbrev pub start_drops_the_proposal_moves : List Move
start_drops_the_proposal_moves =
    plain (sets 0 1 7)
    ++ first_authority in_section_1 6
    ++ asks_before_3
    ++ plain (train 1 0 6 (Request in_section_1) ∷ train 1 0 7 (StartOfMission true in_section_1)
    ∷ train 1 0 8 (ShorteningGranted 5 in_section_1)
    ∷ train 1 0 9 (Request in_section_1) ∷ train 1 0 10 (TrainData in_section_1) ∷ [])
    ++ extends 0 (train 1 0 11 (Request in_section_1)) []

abbrev pub shortening_in_one_centre_moves : List Move
shortening_in_one_centre_moves =
    plain (sets 0 1 7) ++ first_authority in_section_1 6 ++ asks_before_3
    ++ plain (train 1 0 6 (ShorteningGranted 5 in_section_1) ∷ [])

-- the hand is cut, and the lent sections are returned to B
abbrev pub late_route_moves : List Move
late_route_moves =
    route_moves
    ++ asks_before_3
    ++ plain (train 1 0 6 (ShorteningGranted 5 in_section_1) ∷ Happens (Delivery 1 0 1) ∷ Happens (Unset 1 4) ∷ [])
    ++ followed (Happens (Delivery 0 1 2)) (Unkeep 1 4 ∷ Unkeep 1 5 ∷ Unkeep 1 6 ∷ [])
    ++ plain (Happens (Delivery 1 0 2) ∷ [])

abbrev pub answer_to_another_proposal_moves : List Move
answer_to_another_proposal_moves =
    route_moves ++ asks_before_3 ++ plain (train 1 0 6 (ShorteningGranted 4 in_section_1) ∷ [])

abbrev pub granted_past_the_proposed_end_moves : List Move
granted_past_the_proposed_end_moves =
    route_moves ++ asks_before_3 ++ plain (train 1 0 6 (ShorteningGranted 5 (at 102 990 (Some 200))) ∷ [])

abbrev pub another_answer_at_the_border_moves : List Move
another_answer_at_the_border_moves =
    to_the_border_moves ++ asks_before_3 ++ plain (train 1 0 6 (ShorteningGranted 4 in_section_1) ∷ [])

abbrev pub asking_again_tries_again_moves : List Move
asking_again_tries_again_moves =
    to_the_border_moves
    ++ asks_before_3
    ++ plain (train 1 0 6 (ShorteningGranted 5 (at 102 990 (Some 200))) ∷ train 1 0 7 (ShorteningGranted 5 in_section_1)
    ∷ [])
    ++ asks_before_3
    ++ plain (train 1 0 7 (ShorteningRejected 6 in_section_1) ∷ train 1 0 8 (ShorteningRejected 6 in_section_1) ∷ [])

-- ## Handover

-- the announcement and the question for more sections change nothing of the line
abbrev pub announced_moves : List Move
announced_moves = over_the_border_moves ++ plain (Happens (Delivery 0 1 2) ∷ Happens (Delivery 0 1 3) ∷ [])

-- train 1 opens a session with B, and reports in section 4
abbrev pub reports_to_b : ℕ → List Move
reports_to_b t_train = plain (session 1 1 t_train) ++ heard (train 1 1 (t_train + 2) (Report (at 104 100 (Some 200))))

-- A lays the supervision down, and B takes it up
abbrev pub handed_over_moves : ℕ → List Move
handed_over_moves t_train =
    announced_moves
    ++ reports_to_b t_train
    ++ plain (Happens (Delivery 1 0 2) ∷ [])
    ++ followed (Happens (Delivery 1 0 3)) (LayDown 1 0 ∷ [])
    ++ plain (Happens (Delivery 1 0 3) ∷ Happens (Delivery 1 0 3) ∷ [])
    ++ followed (Happens (Delivery 0 1 4)) (TakeUp 1 1 ∷ [])

-- the train has cleared A's sections: they are returned, and A ends its session
abbrev pub come_home : List Move
come_home = followed (Happens (Delivery 1 0 4)) (Unkeep 1 1 ∷ Unkeep 1 2 ∷ Unkeep 1 3 ∷ EndOrder 1 0 ∷ [])

abbrev pub return_moves : List Move
return_moves = handed_over_moves 7 ++ plain (train 1 1 10 (Report (at 104 300 (Some 200))) ∷ []) ++ come_home

abbrev pub last_stamp_heard_moves : List Move
last_stamp_heard_moves =
    handed_over_moves 1
    ++ plain (train 1 1 5 (Report (at 104 300 (Some 200))) ∷ train 1 1 7 (Report (at 104 300 (Some 200))) ∷ [])
    ++ come_home

-- section 4 is wished back, and the hand is cut before it, while B is taking over
abbrev pub cancelled_moves : List Move
cancelled_moves =
    announced_moves
    ++ plain (Happens (Unset 1 4) ∷ Happens (Delivery 1 0 2) ∷ [])
    ++ followed (Happens (Delivery 1 0 3)) (Propose 1 0 4 ∷ [])
    ++ reports_to_b 7
    ++ plain (train 1 0 10 (ShorteningGranted 7 in_section_1) ∷ Happens (Delivery 1 0 4) ∷ [])
