-- Scenes in which a single condition decides: each condition of a request to shorten, and others.
use Rattle.std.specs.Prelude.{[], ◌++◌, ◌∷◌, List, None, Some, true, ℕ}
use Rattle.rbc_spec.specs.Frame.{Announce, RouteAsk, RouteInfo, RouteReturn, RouteWithdraw, TakingOver}
use Rattle.rbc_spec.specs.Message.{Authority, EndOfMission, InitiationOfSession, Report, Request, SessionEstablished}
use Rattle.rbc_spec.specs.Message.{ShorteningGranted, ShorteningRequest, StartOfMission, SystemVersion}
use Rattle.rbc_spec.specs.Message.{TerminationAcknowledged, TerminationOfSession, TrainAccepted, TrainRejected}
use Rattle.rbc_spec.specs.Message.{Transition, unknown_group}
use Rattle.rbc_spec.specs.Outcome.{Asked, Next, Told, Unasked}
use Rattle.rbc_spec.specs.World.{Delivery, Set, Unset}
use Rattle.test_scenes.specs.Handover.{announced, announced_shows, the_yield}
use Rattle.test_scenes.specs.Requests.{asks_for_more, over_the_border, over_the_border_shows, request_to_the_border}
use Rattle.test_scenes.specs.Requests.{request_to_the_border_shows, route_on_the_way, route_on_the_way_shows}
use Rattle.test_scenes.specs.Requests.{start_and_request, start_and_request_shows}
use Rattle.test_scenes.specs.Scene.{all_done, at, done, Given, group_1, Happens, in_section_1, IsOpen, IsShut, Item}
use Rattle.test_scenes.specs.Scene.{Link, Look, moving, nothing, Says, Scene, Sends, session, sets, shows, Tells, times}
use Rattle.test_scenes.specs.Scene.{train}
use Rattle.test_scenes.specs.Shortening.{asks_to_shorten}
use Rattle.test_scenes.specs.Starts.{opened, silent}

-- ## When a train is asked to shorten its authority

-- section 2 of a hand of two is ahead of the train
abbrev pub two_sections : List Scene
two_sections =
    sets 0 1 2 ++ session 1 0 1
    ++ train 1 0 3 (StartOfMission true (at 102 600 (Some 700))) ∷ train 1 0 4 (Report in_section_1) ∷ []

abbrev pub two_sections_show : List (List Item)
two_sections_show = all_done 1 2 ++ opened 1 ++ (Says 1 2 unknown_group TrainAccepted ∷ []) ∷ nothing ∷ []

-- the section is wished back, and no request to shorten is sent
abbrev pub asked : ℕ → List Item
asked s = Tells (Asked s) ∷ []

-- no request before the session is established again; the next unset sends it
abbrev pub unset_without_a_session : List Scene
unset_without_a_session =
    two_sections
    ++ train 1 0 5 TerminationOfSession ∷ Happens (Unset 0 2) ∷ train 1 0 6 InitiationOfSession ∷ Happens (Unset 0 2)
    ∷ train 1 0 7 SessionEstablished ∷ Happens (Unset 0 2) ∷ []

abbrev pub unset_without_a_session_shows : List (List Item)
unset_without_a_session_shows =
    two_sections_show
    ++ (Says 1 3 unknown_group TerminationAcknowledged ∷ []) ∷ asked 2 ∷ (Says 1 4 unknown_group SystemVersion ∷ [])
    ∷ asked 2
    ∷ nothing ∷ (Says 1 5 group_1 (ShorteningRequest 1000) ∷ Tells (Asked 2) ∷ []) ∷ []

-- no request after the end of the mission
abbrev pub unset_after_the_end : List Scene
unset_after_the_end = two_sections ++ train 1 0 5 (EndOfMission (moving in_section_1)) ∷ Happens (Unset 0 2) ∷ Look ∷ []

abbrev pub unset_after_the_end_shows : List (List Item)
unset_after_the_end_shows =
    two_sections_show ++ nothing ∷ asked 2
    ∷ shows (IsShut ∷ times 2 (Given 1) ++ times 5 IsShut) (2 ∷ []) ((0 ∷ []) ∷ [] ∷ []) ∷ []

-- no second request before the answer to the first
abbrev pub unset_again : List Scene
unset_again = two_sections ++ Happens (Unset 0 2) ∷ Happens (Unset 0 2) ∷ []

abbrev pub unset_again_shows : List (List Item)
unset_again_shows =
    two_sections_show ++ (Says 1 3 group_1 (ShorteningRequest 1000) ∷ Tells (Asked 2) ∷ []) ∷ asked 2 ∷ []

-- no request for the first section of the hand, even if the reported front is in rear of it
abbrev pub front_before_the_hand : List Scene
front_before_the_hand =
    two_sections ++ train 1 0 5 (Report (at 100 300 None)) ∷ Happens (Unset 0 1) ∷ Happens (Unset 0 2) ∷ []

abbrev pub front_before_the_hand_shows : List (List Item)
front_before_the_hand_shows =
    two_sections_show ++ nothing ∷ asked 1 ∷ (Says 1 3 82020 (ShorteningRequest 2000) ∷ Tells (Asked 2) ∷ []) ∷ []

-- no request for a section if the front may be in it
abbrev pub front_in_the_section : List Scene
front_in_the_section =
    request_to_the_border ++ train 1 0 6 (Report (at 102 210 None)) ∷ Happens (Unset 0 2) ∷ Happens (Unset 0 3) ∷ []

abbrev pub front_in_the_section_shows : List (List Item)
front_in_the_section_shows =
    request_to_the_border_shows
    ++ nothing ∷ asked 2 ∷ (Says 1 5 82022 (ShorteningRequest 1000) ∷ Tells (Asked 3) ∷ []) ∷ []

-- no request for a section if its start is farther in advance of the group than message 9 can name
abbrev pub section_out_of_reach : List Scene
section_out_of_reach =
    sets 0 0 20
    ++ start_and_request (at 102 600 (Some 200))
    ++ train 1 0 6 (Report (at 100 4600 (Some 200))) ∷ Happens (Unset 0 17) ∷ Happens (Unset 0 16) ∷ []

abbrev pub section_out_of_reach_shows : List (List Item)
section_out_of_reach_shows =
    all_done 0 20
    ++ start_and_request_shows 82022 32000 []
    ++ nothing ∷ asked 17 ∷ (Says 1 5 82020 (ShorteningRequest 32000) ∷ Tells (Asked 16) ∷ []) ∷ []

-- the request ends with the session, and an unset in the next session sends it again
abbrev pub proposal_ends_with_the_session : List Scene
proposal_ends_with_the_session =
    two_sections
    ++ Happens (Unset 0 2) ∷
    (session 1 0 5 ++ train 1 0 7 (ShorteningGranted 3 in_section_1) ∷ Happens (Unset 0 2) ∷ [])

abbrev pub proposal_ends_with_the_session_shows : List (List Item)
proposal_ends_with_the_session_shows =
    two_sections_show
    ++ (Says 1 3 group_1 (ShorteningRequest 1000) ∷ Tells (Asked 2) ∷ []) ∷ (Says 1 4 unknown_group SystemVersion ∷ [])
    ∷ nothing
    ∷ silent Unasked ∷ (Says 1 5 group_1 (ShorteningRequest 1000) ∷ Tells (Asked 2) ∷ []) ∷ []

-- the request ends with the mission
abbrev pub proposal_ends_with_the_mission : List Scene
proposal_ends_with_the_mission =
    two_sections ++ Happens (Unset 0 2) ∷ train 1 0 5 (EndOfMission (moving in_section_1))
    ∷ train 1 0 6 (ShorteningGranted 3 in_section_1) ∷ []

abbrev pub proposal_ends_with_the_mission_shows : List (List Item)
proposal_ends_with_the_mission_shows =
    two_sections_show ++ (Says 1 3 group_1 (ShorteningRequest 1000) ∷ Tells (Asked 2) ∷ []) ∷ nothing ∷ silent Unasked
    ∷ []

-- ## Starts and requests

-- a train that is supervised here can not start outside its hand, not even on an open section
abbrev pub start_outside_the_hand : List Scene
start_outside_the_hand =
    two_sections ++ Happens (Set 0 3) ∷ train 1 0 5 (StartOfMission true (at 103 600 (Some 200))) ∷ Look ∷ []

abbrev pub start_outside_the_hand_shows : List (List Item)
start_outside_the_hand_shows =
    two_sections_show
    ++ done 3 ∷ (Says 1 3 unknown_group TrainRejected ∷ [])
    ∷ shows (IsShut ∷ times 2 (Given 1) ++ IsOpen ∷ times 4 IsShut) [] ((0 ∷ []) ∷ [] ∷ []) ∷ []

-- a second request over the border announces no second handover, and asks for no more sections
abbrev pub request_again_over_the_border : List Scene
request_again_over_the_border = over_the_border ++ train 1 0 7 (Request in_section_1) ∷ []

abbrev pub request_again_over_the_border_shows : List (List Item)
request_again_over_the_border_shows = over_the_border_shows ++ (Says 1 7 group_1 (Authority 6000) ∷ []) ∷ []

-- a pending question for sections is not repeated
abbrev pub request_while_asked : List Scene
request_while_asked = sets 0 1 3 ++ start_and_request in_section_1 ++ train 1 0 6 (Request in_section_1) ∷ []

abbrev pub request_while_asked_shows : List (List Item)
request_while_asked_shows =
    all_done 1 3 ++ start_and_request_shows group_1 3000 asks_for_more ++ (Says 1 5 group_1 (Authority 3000) ∷ []) ∷ []

-- no section is asked for in advance of a hand of 32 sections
abbrev pub full_hand_at_the_border : List Scene
full_hand_at_the_border = sets 0 0 32 ++ start_and_request (at 100 60 (Some 40))

abbrev pub full_hand_at_the_border_shows : List (List Item)
full_hand_at_the_border_shows = all_done 0 32 ++ start_and_request_shows 82020 3200 []

-- no section is asked for if the pool has a section that is still out of reach
abbrev pub pool_out_of_reach : List Scene
pool_out_of_reach =
    sets 0 0 10
    ++ sets 1 10 10
    ++ start_and_request (at 100 600 (Some 200))
    ++ Happens (Delivery 0 1 1) ∷ Happens (Delivery 1 0 1) ∷ train 1 0 6 (Request (at 100 600 (Some 200))) ∷ []

abbrev pub pool_out_of_reach_shows : List (List Item)
pool_out_of_reach_shows =
    all_done 0 10
    ++ all_done 10 10
    ++ start_and_request_shows 82020 20000 (Sends 1 1 (RouteAsk 1 10 22) ∷ [])
    ++ (Link Next ∷ Sends 0 1 (RouteInfo 1 (record { first = 10; count = 10 })) ∷ []) ∷ (Link Next ∷ [])
    ∷ (Says 1 5 82020 (Authority 32000) ∷ Says 1 6 82020 (Transition 20000 5 2) ∷ Sends 1 2 (Announce 1 1 0) ∷ []) ∷ []

-- ## With a pool

-- a Yield follows the return of the pool
abbrev pub yield_with_a_pool : List Scene
yield_with_a_pool =
    over_the_border
    ++ Happens (Set 1 7) ∷ Happens (Delivery 0 1 2) ∷ Happens (Delivery 0 1 3) ∷ Happens (Delivery 1 0 2)
    ∷ (session 1 1 7
    ++ train 1 1 9 (Report (at 104 100 (Some 200))) ∷ Happens (Delivery 1 0 3) ∷ Happens (Delivery 0 1 4)
    ∷ Happens (Delivery 0 1 5) ∷ Look ∷ [])

abbrev pub yield_with_a_pool_shows : List (List Item)
yield_with_a_pool_shows =
    over_the_border_shows
    ++ done 7 ∷ (Link Next ∷ []) ∷ (Link Next ∷ Sends 0 2 (RouteInfo 1 (record { first = 7; count = 1 })) ∷ [])
    ∷ (Link Next ∷ [])
    ∷ (opened 1
    ++ (Sends 0 3 (TakingOver 1 1) ∷ [])
    ∷ (Link Next ∷ Sends 1 4 (RouteReturn 1 (record { first = 7; count = 1 })) ∷ Sends 1 5 the_yield ∷ [])
    ∷ (Link Next ∷ []) ∷ (Link Next ∷ [])
    ∷ shows (IsShut ∷ times 6 (Given 1) ++ IsOpen ∷ []) [] ((1 ∷ []) ∷ [] ∷ []) ∷ [])

-- a cut of the hand returns the pool too
abbrev pub cut_with_a_pool : List Scene
cut_with_a_pool =
    route_on_the_way
    ++ Happens (Delivery 1 0 1) ∷ Happens (Unset 0 3) ∷ train 1 0 6 (ShorteningGranted 5 in_section_1)
    ∷ Happens (Delivery 0 1 2) ∷ Look ∷ []

abbrev pub cut_with_a_pool_shows : List (List Item)
cut_with_a_pool_shows =
    route_on_the_way_shows
    ++ (Link Next ∷ []) ∷ asks_to_shorten 5
    ∷ (Sends 1 2 (RouteReturn 1 (record { first = 4; count = 3 })) ∷ Tells (Told 3) ∷ [])
    ∷ (Link Next ∷ []) ∷ shows (IsShut ∷ times 2 (Given 1) ++ IsShut ∷ times 3 IsOpen ++ IsShut ∷ []) []
    ((0 ∷ []) ∷ [] ∷ []) ∷ []

-- a cut that leaves a section of B in the hand does not end the handover
abbrev pub cut_beyond_the_border : List Scene
cut_beyond_the_border =
    announced
    ++ Happens (Unset 1 5) ∷ Happens (Delivery 1 0 2) ∷ Happens (Delivery 1 0 3)
    ∷ train 1 0 7 (ShorteningGranted 7 in_section_1)
    ∷ Happens (Delivery 0 1 4) ∷ Look ∷ []

abbrev pub cut_beyond_the_border_shows : List (List Item)
cut_beyond_the_border_shows =
    announced_shows
    ++ (Sends 0 3 (RouteWithdraw 1 5) ∷ Tells (Asked 5) ∷ []) ∷ (Link Next ∷ [])
    ∷ (Link Next ∷ Says 1 7 group_1 (ShorteningRequest 4000) ∷ [])
    ∷ (Sends 1 4 (RouteReturn 1 (record { first = 5; count = 2 })) ∷ [])
    ∷ (Link Next ∷ Tells (Told 5) ∷ [])
    ∷ shows (IsShut ∷ times 4 (Given 1) ++ IsShut ∷ IsOpen ∷ IsShut ∷ []) [] ((0 ∷ []) ∷ [] ∷ []) ∷ []
