-- Requests and reports: a hand is extended up to the border and over it, and is cleared in rear of the train.
use Rattle.std.specs.Prelude.{[], ◌++◌, ◌+◌, ◌∷◌, List, None, Some, true, ℕ}
use Rattle.rbc_spec.specs.Frame.{Announce, Cancel, RouteAsk, RouteInfo, RouteReturn, RouteWithdraw}
use Rattle.rbc_spec.specs.Message.{Authority, DataAcknowledged, EndOfMission, Report, Request, StartOfMission}
use Rattle.rbc_spec.specs.Message.{TrainAccepted, TrainData, Transition, unknown_group}
use Rattle.rbc_spec.specs.Outcome.{Asked, Early, Next, NotSupervised, Old, Told}
use Rattle.rbc_spec.specs.Place.{Position}
use Rattle.rbc_spec.specs.World.{Delivery, Unset}
use Rattle.test_scenes.specs.Scene.{all_done, at, Given, group_1, Happens, in_section_1, IsOpen, IsShut, Item, Kept}
use Rattle.test_scenes.specs.Scene.{Link, Look, LookAtClock, Mark, moving, NeverSent, nothing, Says, Scene, Sends}
use Rattle.test_scenes.specs.Scene.{session, sets, shows, ShowsClock, Tells, times, train}
use Rattle.test_scenes.specs.Starts.{opened, silent}

-- ## Up to the border

-- train 1 starts at a position, sends its data and asks for an authority
abbrev pub start_and_request : Position → List Scene
start_and_request position =
    session 1 0 1
    ++ train 1 0 3 (StartOfMission true position) ∷ train 1 0 4 (TrainData position) ∷ train 1 0 5 (Request position)
    ∷ []

-- its authority, to an end in metres from a group
abbrev pub start_and_request_shows : (group l_endsection : ℕ) → List Item → List (List Item)
start_and_request_shows group l_endsection frames =
    opened 1
    ++ (Says 1 2 unknown_group TrainAccepted ∷ []) ∷ (Says 1 3 unknown_group (DataAcknowledged 4) ∷ [])
    ∷ (Says 1 4 group (Authority l_endsection) ∷ frames) ∷ []

-- B is asked for sections in advance of A's last
abbrev pub asks_for_more : List Item
asks_for_more = Sends 1 1 (RouteAsk 1 4 29) ∷ []

-- the first sections of B are not released
abbrev pub request_to_the_border : List Scene
request_to_the_border = sets 0 1 3 ++ start_and_request in_section_1 ++ Happens (Delivery 0 1 1) ∷ []

abbrev pub request_to_the_border_shows : List (List Item)
request_to_the_border_shows =
    all_done 1 3
    ++ start_and_request_shows group_1 3000 asks_for_more
    ++ (Link Next ∷ Sends 0 1 (RouteInfo 1 (record { first = 4; count = 0 })) ∷ []) ∷ []

abbrev pub request_asks_over_the_border : List Scene
request_asks_over_the_border = request_to_the_border ++ Look ∷ []

abbrev pub request_asks_over_the_border_shows : List (List Item)
request_asks_over_the_border_shows =
    request_to_the_border_shows ++ shows (IsShut ∷ times 3 (Given 1) ++ times 4 IsShut) [] ((0 ∷ []) ∷ [] ∷ []) ∷ []

-- B answers the question, and the next request gives nothing and asks again
abbrev pub round : (k t_train : ℕ) → List Scene
round k t_train = Happens (Delivery 0 1 k) ∷ Happens (Delivery 1 0 k) ∷ train 1 0 t_train (Request in_section_1) ∷ []

abbrev pub round_shows : (k said : ℕ) → List (List Item)
round_shows k said =
    (Link Next ∷ Sends 0 k (RouteInfo 1 (record { first = 4; count = 0 })) ∷ []) ∷ (Link Next ∷ [])
    ∷ (Says 1 said group_1 (Authority 3000) ∷ Sends 1 (k + 1) (RouteAsk 1 4 29) ∷ []) ∷ []

abbrev pub asks_again_each_round : List Scene
asks_again_each_round = sets 0 1 3 ++ start_and_request in_section_1 ++ round 1 6 ++ round 2 7 ++ round 3 8

abbrev pub asks_again_each_round_shows : List (List Item)
asks_again_each_round_shows =
    all_done 1 3 ++ start_and_request_shows group_1 3000 asks_for_more ++ round_shows 1 5 ++ round_shows 2 6
    ++ round_shows 3 7

-- the hand ends with the track, whatever sections the next track has
abbrev pub end_of_the_track : List Scene
end_of_the_track = sets 0 1 1 ++ sets 1 2 2 ++ start_and_request in_section_1 ++ Look ∷ []

abbrev pub end_of_the_track_shows : List (List Item)
end_of_the_track_shows =
    all_done 1 1
    ++ all_done 2 2
    ++ start_and_request_shows group_1 1000 []
    ++ shows (IsShut ∷ Given 1 ∷ times 2 IsOpen) [] ((0 ∷ []) ∷ [] ∷ []) ∷ []

-- ## Reports

-- the rear is exactly at the end of section 1
abbrev pub report_clears : List Scene
report_clears = request_to_the_border ++ train 1 0 6 (Report (at 102 210 (Some 200))) ∷ Look ∷ []

abbrev pub report_clears_shows : List (List Item)
report_clears_shows =
    request_to_the_border_shows
    ++ nothing ∷ shows (IsShut ∷ IsOpen ∷ times 2 (Given 1) ++ times 4 IsShut) [] ((0 ∷ []) ∷ [] ∷ []) ∷ []

-- the integrity is not confirmed
abbrev pub no_integrity_frees_nothing : List Scene
no_integrity_frees_nothing = request_to_the_border ++ train 1 0 6 (Report (at 102 210 None)) ∷ Look ∷ []

abbrev pub no_integrity_frees_nothing_shows : List (List Item)
no_integrity_frees_nothing_shows =
    request_to_the_border_shows
    ++ nothing ∷ shows (IsShut ∷ times 3 (Given 1) ++ times 4 IsShut) [] ((0 ∷ []) ∷ [] ∷ []) ∷ []

-- ## Over the border

-- B lends three sections, and the answer is on the way
abbrev pub route_on_the_way : List Scene
route_on_the_way = sets 0 1 3 ++ sets 1 4 3 ++ start_and_request in_section_1 ++ Happens (Delivery 0 1 1) ∷ Look ∷ []

abbrev pub route_on_the_way_shows : List (List Item)
route_on_the_way_shows =
    all_done 1 3
    ++ all_done 4 3
    ++ start_and_request_shows group_1 3000 asks_for_more
    ++ (Link Next ∷ Sends 0 1 (RouteInfo 1 (record { first = 4; count = 3 })) ∷ [])
    ∷ shows (IsShut ∷ times 3 (Given 1) ++ times 3 (Kept 1) ++ IsShut ∷ []) [] ((0 ∷ []) ∷ [] ∷ []) ∷ []

-- sections 1 to 6 are given to train 1, which these centres supervise
abbrev pub shows_six_given : List ℕ → List Item
shows_six_given supervisors = shows (IsShut ∷ times 6 (Given 1) ++ IsShut ∷ []) [] (supervisors ∷ [] ∷ [])

-- the next request gives them to the train
abbrev pub over_the_border : List Scene
over_the_border = route_on_the_way ++ Happens (Delivery 1 0 1) ∷ train 1 0 6 (Request in_section_1) ∷ []

abbrev pub over_the_border_shows : List (List Item)
over_the_border_shows =
    route_on_the_way_shows
    ++ (Link Next ∷ [])
    ∷ (Says 1 5 group_1 (Authority 6000) ∷ Says 1 6 group_1 (Transition 3000 5 2)
    ∷ Sends 1 2 (Announce 1 1 0) ∷ Sends 1 3 (RouteAsk 1 7 26) ∷ []) ∷ []

abbrev pub request_extends_over_the_border : List Scene
request_extends_over_the_border = over_the_border ++ Look ∷ []

abbrev pub request_extends_over_the_border_shows : List (List Item)
request_extends_over_the_border_shows = over_the_border_shows ++ shows_six_given (0 ∷ []) ∷ []

-- ## The order of frames

-- a frame is delivered before an earlier one; and a delivery of a frame that was never sent
abbrev pub early_frame : List Scene
early_frame =
    over_the_border
    ++ LookAtClock 1 ∷ Happens (Delivery 0 1 3) ∷ Look ∷ LookAtClock 1 ∷ Happens (Delivery 0 1 9) ∷ Look ∷ LookAtClock 1
    ∷ Happens (Delivery 0 1 2) ∷ Happens (Delivery 0 1 3) ∷ Happens (Delivery 0 1 3) ∷ Happens (Delivery 0 1 1) ∷ Look
    ∷ []

abbrev pub early_frame_shows : List (List Item)
early_frame_shows =
    over_the_border_shows
    ++ (ShowsClock 9 ∷ []) ∷ (Link Early ∷ []) ∷ shows_six_given (0 ∷ []) ∷ (ShowsClock 12 ∷ [])
    ∷ (NeverSent ∷ []) ∷ shows_six_given (0 ∷ []) ∷ (ShowsClock 12 ∷ [])
    ∷ (Link Next ∷ []) ∷ (Link Next ∷ Sends 0 2 (RouteInfo 1 (record { first = 7; count = 0 })) ∷ []) ∷ (Link Old ∷ [])
    ∷ (Link Old ∷ [])
    ∷ shows_six_given (0 ∷ []) ∷ []

-- ## Limits of a hand

-- forty sections of 100 m: a hand has at most 32
abbrev pub hand_of_32_sections : List Scene
hand_of_32_sections = sets 0 0 40 ++ start_and_request (at 101 60 (Some 40)) ++ Look ∷ []

abbrev pub hand_of_32_sections_shows : List (List Item)
hand_of_32_sections_shows =
    all_done 0 40
    ++ start_and_request_shows group_1 3200 []
    ++ shows (IsOpen ∷ times 32 (Given 1) ++ times 7 IsOpen) [] ((0 ∷ []) ∷ [] ∷ []) ∷ []

-- twenty sections of 2 000 m: the end of an authority is at most 32 767 m from the group
abbrev pub end_within_reach_of_the_message : List Scene
end_within_reach_of_the_message = sets 0 0 20 ++ start_and_request (at 100 600 (Some 200)) ++ Look ∷ []

abbrev pub end_within_reach_of_the_message_shows : List (List Item)
end_within_reach_of_the_message_shows =
    all_done 0 20
    ++ start_and_request_shows 82020 32000 []
    ++ shows (times 16 (Given 1) ++ times 4 IsOpen) [] ((0 ∷ []) ∷ [] ∷ []) ∷ []

-- an authority as long as the message can name, and a section that ends 1 m past that
abbrev pub longest_authority : List Scene
longest_authority = sets 0 0 17 ++ start_and_request (at 100 600 (Some 200)) ++ Look ∷ []

abbrev pub longest_authority_shows : List (List Item)
longest_authority_shows =
    all_done 0 17 ++ start_and_request_shows 82020 32767 [] ++ shows (times 17 (Given 1)) [] ((0 ∷ []) ∷ [] ∷ []) ∷ []

abbrev pub one_metre_too_far : List Scene
one_metre_too_far = sets 0 0 17 ++ start_and_request (at 100 600 (Some 200)) ++ Look ∷ []

abbrev pub one_metre_too_far_shows : List (List Item)
one_metre_too_far_shows =
    all_done 0 17 ++ start_and_request_shows 82020 32000 []
    ++ shows (times 16 (Given 1) ++ IsOpen ∷ []) [] ((0 ∷ []) ∷ [] ∷ []) ∷ []

-- ## End of mission

-- The mission ends under way in section 2. The sections in rear are cleared, and those in advance stay in the hand. The
-- handover goes on.
abbrev pub end_of_mission : List Scene
end_of_mission = over_the_border ++ train 1 0 7 (EndOfMission (moving (at 102 210 (Some 200)))) ∷ Look ∷ []

abbrev pub end_of_mission_shows : List (List Item)
end_of_mission_shows =
    over_the_border_shows ++ nothing
    ∷ shows (IsShut ∷ IsOpen ∷ times 5 (Given 1) ++ IsShut ∷ []) [] ((0 ∷ []) ∷ [] ∷ []) ∷ []

-- Sections 1 and 3 of A are open, and the hand has only section 2. Sections 4 to 6 of B have these marks.
abbrev pub shows_section_2 : (marks : List Mark) (wished : List ℕ) → List Item
shows_section_2 marks wished =
    shows (IsShut ∷ IsOpen ∷ Given 1 ∷ IsOpen ∷ marks ++ IsShut ∷ []) wished ((0 ∷ []) ∷ [] ∷ [])

-- The mission ends at standstill, and the sections ahead leave the hand too. B's sections are returned. The handover is
-- cancelled, so B does not expect the train any more.
abbrev pub end_at_standstill : List Scene
end_at_standstill =
    over_the_border
    ++ train 1 0 7 (EndOfMission (at 102 210 (Some 200))) ∷ Look
    ∷ Happens (Delivery 0 1 2) ∷ Happens (Delivery 0 1 3) ∷ Happens (Delivery 0 1 4) ∷ Look ∷ Happens (Delivery 0 1 5)
    ∷ (session 1 1 8 ++ train 1 1 10 (Report (at 104 100 (Some 200))) ∷ [])

abbrev pub end_at_standstill_shows : List (List Item)
end_at_standstill_shows =
    over_the_border_shows
    ++ (Sends 1 4 (RouteReturn 1 (record { first = 4; count = 3 })) ∷ Sends 1 5 (Cancel 1 1) ∷ [])
    ∷ shows_section_2 (times 3 (Kept 1)) []
    ∷ (Link Next ∷ []) ∷ (Link Next ∷ Sends 0 2 (RouteInfo 1 (record { first = 7; count = 0 })) ∷ []) ∷ (Link Next ∷ [])
    ∷ shows_section_2 (times 3 IsOpen) [] ∷ (Link Next ∷ [])
    ∷ (opened 1 ++ silent NotSupervised ∷ [])

-- section 5 was wished back: when it is returned, it is shut, and the reply `Told` is sent
abbrev pub end_at_standstill_with_a_wish : List Scene
end_at_standstill_with_a_wish =
    over_the_border
    ++ Happens (Unset 1 5) ∷ train 1 0 7 (EndOfMission (at 102 210 (Some 200))) ∷ Look
    ∷ Happens (Delivery 0 1 2) ∷ Happens (Delivery 0 1 3) ∷ Happens (Delivery 0 1 4) ∷ Look ∷ []

abbrev pub end_at_standstill_with_a_wish_shows : List (List Item)
end_at_standstill_with_a_wish_shows =
    over_the_border_shows
    ++ (Sends 0 2 (RouteWithdraw 1 5) ∷ Tells (Asked 5) ∷ [])
    ∷ (Sends 1 4 (RouteReturn 1 (record { first = 4; count = 3 })) ∷ Sends 1 5 (Cancel 1 1) ∷ [])
    ∷ shows_section_2 (times 3 (Kept 1)) (5 ∷ [])
    ∷ (Link Next ∷ []) ∷ (Link Next ∷ Sends 0 3 (RouteInfo 1 (record { first = 7; count = 0 })) ∷ [])
    ∷ (Link Next ∷ Tells (Told 5) ∷ [])
    ∷ shows_section_2 (IsOpen ∷ IsShut ∷ IsOpen ∷ []) [] ∷ []

-- the mission ends at standstill with the front before the hand, or in its last section: no section is ahead
abbrev pub end_before_the_hand : List Scene
end_before_the_hand = over_the_border ++ train 1 0 7 (EndOfMission (at 100 600 (Some 200))) ∷ Look ∷ []

abbrev pub end_before_the_hand_shows : List (List Item)
end_before_the_hand_shows = over_the_border_shows ++ nothing ∷ shows_six_given (0 ∷ []) ∷ []

abbrev pub end_at_the_end_of_the_hand : List Scene
end_at_the_end_of_the_hand = over_the_border ++ train 1 0 7 (EndOfMission (at 106 600 None)) ∷ Look ∷ []

abbrev pub end_at_the_end_of_the_hand_shows : List (List Item)
end_at_the_end_of_the_hand_shows = over_the_border_shows ++ nothing ∷ shows_six_given (0 ∷ []) ∷ []
