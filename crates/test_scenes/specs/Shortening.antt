-- A section of a hand is wished back: the train is asked to shorten its authority.
use Rattle.std.specs.Prelude.{[], ◌++◌, ◌∷◌, List, Some, true, ℕ}
use Rattle.rbc_spec.specs.Frame.{RouteReturn, RouteWithdraw}
use Rattle.rbc_spec.specs.Message.{Authority, DataAcknowledged, Report, Request, ShorteningGranted, ShorteningRejected}
use Rattle.rbc_spec.specs.Message.{ShorteningRequest, StartOfMission, TrainAccepted, TrainData, unknown_group}
use Rattle.rbc_spec.specs.Outcome.{Asked, Next, NoTrainData, ProposalPending, Told, Unasked}
use Rattle.rbc_spec.specs.World.{Delivery, Unset}
use Rattle.test_scenes.specs.Requests.{request_to_the_border, request_to_the_border_shows, route_on_the_way}
use Rattle.test_scenes.specs.Requests.{route_on_the_way_shows, start_and_request, start_and_request_shows}
use Rattle.test_scenes.specs.Scene.{all_done, at, Given, group_1, Happens, in_section_1, IsOpen, IsShut, Item, Kept}
use Rattle.test_scenes.specs.Scene.{Link, Look, nothing, Says, Scene, Sends, session, sets, shows, Tells, times, train}
use Rattle.test_scenes.specs.Starts.{opened, silent}

-- the request to shorten the authority to the start of section 3
abbrev pub asks_to_shorten : ℕ → List Item
asks_to_shorten t_train = Says 1 t_train group_1 (ShorteningRequest 2000) ∷ Tells (Asked 3) ∷ []

-- the view of the line while section 3 is wished back, with three sections kept at B
abbrev pub shows_wished : List Item
shows_wished = shows (IsShut ∷ times 3 (Given 1) ++ times 3 (Kept 1) ++ IsShut ∷ []) (3 ∷ []) ((0 ∷ []) ∷ [] ∷ [])

-- the same with all sections of B shut
abbrev pub shows_wished_at_the_border : List Item
shows_wished_at_the_border = shows (IsShut ∷ times 3 (Given 1) ++ times 4 IsShut) (3 ∷ []) ((0 ∷ []) ∷ [] ∷ [])

-- ## In one centre

-- section 2 of a hand of two is wished back
abbrev pub unset_in_a_hand : List Scene
unset_in_a_hand =
    sets 0 1 2
    ++ session 1 0 1
    ++ train 1 0 3 (StartOfMission true (at 102 600 (Some 700))) ∷ Look ∷ train 1 0 4 (Report in_section_1)
    ∷ Happens (Unset 0 2) ∷ Look ∷ []

abbrev pub unset_in_a_hand_shows : List (List Item)
unset_in_a_hand_shows =
    all_done 1 2
    ++ opened 1
    ++ (Says 1 2 unknown_group TrainAccepted ∷ [])
    ∷ shows (IsShut ∷ times 2 (Given 1) ++ times 5 IsShut) [] ((0 ∷ []) ∷ [] ∷ [])
    ∷ nothing ∷ (Says 1 3 group_1 (ShorteningRequest 1000) ∷ Tells (Asked 2) ∷ [])
    ∷ shows (IsShut ∷ times 2 (Given 1) ++ times 5 IsShut) (2 ∷ []) ((0 ∷ []) ∷ [] ∷ []) ∷ []

-- a start within the hand drops the request to shorten, so a request with new train data is answered
abbrev pub start_drops_the_proposal : List Scene
start_drops_the_proposal =
    sets 0 1 7
    ++ start_and_request in_section_1
    ++ Happens (Unset 0 3) ∷ train 1 0 6 (Request in_section_1) ∷ train 1 0 7 (StartOfMission true in_section_1)
    ∷ train 1 0 8 (ShorteningGranted 5 in_section_1) ∷ train 1 0 9 (Request in_section_1)
    ∷ train 1 0 10 (TrainData in_section_1)
    ∷ train 1 0 11 (Request in_section_1) ∷ []

abbrev pub start_drops_the_proposal_shows : List (List Item)
start_drops_the_proposal_shows =
    all_done 1 7
    ++ start_and_request_shows group_1 7000 []
    ++ asks_to_shorten 5 ∷ silent ProposalPending ∷ (Says 1 6 unknown_group TrainAccepted ∷ [])
    ∷ silent Unasked ∷ silent NoTrainData ∷ (Says 1 7 unknown_group (DataAcknowledged 10) ∷ [])
    ∷ (Says 1 8 group_1 (Authority 7000) ∷ []) ∷ []

-- a hand of seven sections of one centre is cut before section 3
abbrev pub shortening_in_one_centre : List Scene
shortening_in_one_centre =
    sets 0 1 7 ++ start_and_request in_section_1
    ++ Look ∷ Happens (Unset 0 3) ∷ train 1 0 6 (ShorteningGranted 5 in_section_1) ∷ Look ∷ []

abbrev pub shortening_in_one_centre_shows : List (List Item)
shortening_in_one_centre_shows =
    all_done 1 7
    ++ start_and_request_shows group_1 7000 []
    ++ shows (IsShut ∷ times 7 (Given 1)) [] ((0 ∷ []) ∷ [] ∷ [])
    ∷ asks_to_shorten 5 ∷ (Tells (Told 3) ∷ [])
    ∷ shows (IsShut ∷ times 2 (Given 1) ++ times 1 IsShut ++ times 4 IsOpen) [] ((0 ∷ []) ∷ [] ∷ []) ∷ []

-- ## While a route is on the way

-- The hand is cut, so the route that arrives after that is returned. A section of it is wished back meanwhile.
abbrev pub shortening_and_a_late_route : List Scene
shortening_and_a_late_route =
    route_on_the_way
    ++ Happens (Unset 0 3) ∷ Look ∷ train 1 0 6 (ShorteningGranted 5 in_section_1) ∷ Look
    ∷ Happens (Delivery 1 0 1) ∷ Happens (Unset 1 4) ∷ Look ∷ Happens (Delivery 0 1 2) ∷ Look ∷ Happens (Delivery 1 0 2)
    ∷ Look ∷ []

-- the train has sections 1 and 2, and sections 4 to 6 have these marks
abbrev pub shortening_and_a_late_route_shows : List (List Item)
shortening_and_a_late_route_shows =
    route_on_the_way_shows
    ++ asks_to_shorten 5 ∷ shows_wished ∷ (Tells (Told 3) ∷ [])
    ∷ shows (IsShut ∷ times 2 (Given 1) ++ IsShut ∷ times 3 (Kept 1) ++ IsShut ∷ []) [] ((0 ∷ []) ∷ [] ∷ [])
    ∷ (Link Next ∷ Sends 1 2 (RouteReturn 1 (record { first = 4; count = 3 })) ∷ [])
    ∷ (Sends 0 2 (RouteWithdraw 1 4) ∷ Tells (Asked 4) ∷ [])
    ∷ shows (IsShut ∷ times 2 (Given 1) ++ IsShut ∷ times 3 (Kept 1) ++ IsShut ∷ []) (4 ∷ []) ((0 ∷ []) ∷ [] ∷ [])
    ∷ (Link Next ∷ Tells (Told 4) ∷ [])
    ∷ shows (IsShut ∷ times 2 (Given 1) ++ times 2 IsShut ++ times 2 IsOpen ++ IsShut ∷ []) [] ((0 ∷ []) ∷ [] ∷ [])
    ∷ (Link Next ∷ [])
    ∷ shows (IsShut ∷ times 2 (Given 1) ++ times 2 IsShut ++ times 2 IsOpen ++ IsShut ∷ []) [] ((0 ∷ []) ∷ [] ∷ []) ∷ []

-- the train answers an earlier message
abbrev pub answer_to_another_proposal : List Scene
answer_to_another_proposal =
    route_on_the_way ++ Happens (Unset 0 3) ∷ train 1 0 6 (ShorteningGranted 4 in_section_1) ∷ Look ∷ []

abbrev pub answer_to_another_proposal_shows : List (List Item)
answer_to_another_proposal_shows = route_on_the_way_shows ++ asks_to_shorten 5 ∷ silent Unasked ∷ shows_wished ∷ []

-- the front has passed the proposed end, and is at 3 010 m
abbrev pub granted_past_the_proposed_end : List Scene
granted_past_the_proposed_end =
    route_on_the_way ++ Happens (Unset 0 3) ∷ train 1 0 6 (ShorteningGranted 5 (at 102 990 (Some 200))) ∷ Look ∷ []

abbrev pub granted_past_the_proposed_end_shows : List (List Item)
granted_past_the_proposed_end_shows = route_on_the_way_shows ++ asks_to_shorten 5 ∷ nothing ∷ shows_wished ∷ []

-- ## At a border with no route

abbrev pub another_answer_at_the_border : List Scene
another_answer_at_the_border =
    request_to_the_border ++ Happens (Unset 0 3) ∷ train 1 0 6 (ShorteningGranted 4 in_section_1) ∷ Look ∷ []

abbrev pub another_answer_at_the_border_shows : List (List Item)
another_answer_at_the_border_shows =
    request_to_the_border_shows ++ asks_to_shorten 5 ∷ silent Unasked ∷ shows_wished_at_the_border ∷ []

-- a request to shorten is dropped, sent again after another unset, and rejected
abbrev pub asking_again_tries_again : List Scene
asking_again_tries_again =
    request_to_the_border
    ++ Happens (Unset 0 3) ∷ train 1 0 6 (ShorteningGranted 5 (at 102 990 (Some 200))) ∷ Look
    ∷ train 1 0 7 (ShorteningGranted 5 in_section_1)
    ∷ Happens (Unset 0 3) ∷ train 1 0 7 (ShorteningRejected 6 in_section_1)
    ∷ train 1 0 8 (ShorteningRejected 6 in_section_1) ∷ Look ∷ []

abbrev pub asking_again_tries_again_shows : List (List Item)
asking_again_tries_again_shows =
    request_to_the_border_shows
    ++ asks_to_shorten 5 ∷ nothing ∷ shows_wished_at_the_border ∷ silent Unasked
    ∷ asks_to_shorten 6 ∷ nothing ∷ silent Unasked ∷ shows_wished_at_the_border ∷ []
