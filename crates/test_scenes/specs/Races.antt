-- Late frames, and sections that are wished back, asked for or returned while frames are on the way.
use Rattle.std.specs.Prelude.{[], ◌++◌, ◌∷◌, List, Some, true, ℕ}
use Rattle.rbc_spec.specs.Frame.{Announce, Cancel, ReturnRight, RouteAsk, RouteInfo, RouteReturn, RouteWithdraw}
use Rattle.rbc_spec.specs.Frame.{TakingOver}
use Rattle.rbc_spec.specs.Message.{Authority, EndOfMission, InitiationOfSession, Report, Request, ShorteningGranted}
use Rattle.rbc_spec.specs.Message.{ShorteningRequest, StartOfMission, SystemVersion, TrainAccepted, TrainRejected}
use Rattle.rbc_spec.specs.Message.{Transition, unknown_group}
use Rattle.rbc_spec.specs.Outcome.{Asked, Next, NotSupervised, StaleStamp, Told, WrongPhase}
use Rattle.rbc_spec.specs.World.{Delivery, Set, Unset}
use Rattle.test_scenes.specs.Handover.{announced, announced_shows, the_yield}
use Rattle.test_scenes.specs.Requests.{over_the_border, over_the_border_shows, request_to_the_border}
use Rattle.test_scenes.specs.Requests.{request_to_the_border_shows, route_on_the_way, route_on_the_way_shows}
use Rattle.test_scenes.specs.Scene.{at, done, Given, group_1, Happens, in_section_1, IsOpen, IsShut, Item, Kept, Link}
use Rattle.test_scenes.specs.Scene.{Look, Mark, moving, nothing, Says, Scene, Sends, session, shows, Tells, times}
use Rattle.test_scenes.specs.Scene.{train}
use Rattle.test_scenes.specs.Shortening.{asks_to_shorten}
use Rattle.test_scenes.specs.Starts.{opened, right_comes, right_comes_shows, shows_section_1, silent, start_elsewhere}
use Rattle.test_scenes.specs.Starts.{start_elsewhere_shows}

-- the last section before those of B, the sections of B, and the supervisor of train 1
abbrev pub shows_b : List Mark → List ℕ → List ℕ → List Item
shows_b of_b wished supervisors = shows (IsShut ∷ times 3 (Given 1) ++ of_b) wished (supervisors ∷ [] ∷ [])

-- ## The route

-- A section in the middle of the pool is wished back. It is returned with all that follow it, and the rest is given.
abbrev pub withdrawn_from_the_pool : List Scene
withdrawn_from_the_pool =
    route_on_the_way
    ++ Happens (Delivery 1 0 1) ∷ Happens (Unset 1 5) ∷ Happens (Delivery 1 0 2) ∷ Look ∷ Happens (Delivery 0 1 2)
    ∷ Look
    ∷ train 1 0 6 (Request in_section_1) ∷ Look ∷ []

abbrev pub withdrawn_from_the_pool_shows : List (List Item)
withdrawn_from_the_pool_shows =
    route_on_the_way_shows
    ++ (Link Next ∷ []) ∷ (Sends 0 2 (RouteWithdraw 1 5) ∷ Tells (Asked 5) ∷ [])
    ∷ (Link Next ∷ Sends 1 2 (RouteReturn 1 (record { first = 5; count = 2 })) ∷ [])
    ∷ shows_b (times 3 (Kept 1) ++ IsShut ∷ []) (5 ∷ []) (0 ∷ [])
    ∷ (Link Next ∷ Tells (Told 5) ∷ []) ∷ shows_b (Kept 1 ∷ IsShut ∷ IsOpen ∷ IsShut ∷ []) [] (0 ∷ [])
    ∷ (Says 1 5 group_1 (Authority 4000) ∷ Says 1 6 group_1 (Transition 3000 5 2)
    ∷ Sends 1 3 (Announce 1 1 0) ∷ Sends 1 4 (RouteAsk 1 5 28) ∷ [])
    ∷ shows_b (Given 1 ∷ IsShut ∷ IsOpen ∷ IsShut ∷ []) [] (0 ∷ []) ∷ []

-- The first section of the pool is wished back. The whole pool is returned, and the next request asks for sections
-- again.
abbrev pub first_of_the_pool_withdrawn : List Scene
first_of_the_pool_withdrawn =
    route_on_the_way
    ++ Happens (Delivery 1 0 1) ∷ Happens (Unset 1 4) ∷ Happens (Delivery 1 0 2) ∷ Look ∷ Happens (Delivery 0 1 2)
    ∷ Look
    ∷ train 1 0 6 (Request in_section_1) ∷ Look ∷ []

abbrev pub first_of_the_pool_withdrawn_shows : List (List Item)
first_of_the_pool_withdrawn_shows =
    route_on_the_way_shows
    ++ (Link Next ∷ []) ∷ (Sends 0 2 (RouteWithdraw 1 4) ∷ Tells (Asked 4) ∷ [])
    ∷ (Link Next ∷ Sends 1 2 (RouteReturn 1 (record { first = 4; count = 3 })) ∷ [])
    ∷ shows_b (times 3 (Kept 1) ++ IsShut ∷ []) (4 ∷ []) (0 ∷ [])
    ∷ (Link Next ∷ Tells (Told 4) ∷ []) ∷ shows_b (IsShut ∷ times 2 IsOpen ++ IsShut ∷ []) [] (0 ∷ [])
    ∷ (Says 1 5 group_1 (Authority 3000) ∷ Sends 1 3 (RouteAsk 1 4 29) ∷ [])
    ∷ shows_b (IsShut ∷ times 2 IsOpen ++ IsShut ∷ []) [] (0 ∷ []) ∷ []

-- The last section of the pool is wished back. Only this section is returned, and the rest is given.
abbrev pub last_of_the_pool_withdrawn : List Scene
last_of_the_pool_withdrawn =
    route_on_the_way
    ++ Happens (Delivery 1 0 1) ∷ Happens (Unset 1 6) ∷ Happens (Delivery 1 0 2) ∷ Look ∷ Happens (Delivery 0 1 2)
    ∷ Look
    ∷ train 1 0 6 (Request in_section_1) ∷ Look ∷ []

abbrev pub last_of_the_pool_withdrawn_shows : List (List Item)
last_of_the_pool_withdrawn_shows =
    route_on_the_way_shows
    ++ (Link Next ∷ []) ∷ (Sends 0 2 (RouteWithdraw 1 6) ∷ Tells (Asked 6) ∷ [])
    ∷ (Link Next ∷ Sends 1 2 (RouteReturn 1 (record { first = 6; count = 1 })) ∷ [])
    ∷ shows_b (times 3 (Kept 1) ++ IsShut ∷ []) (6 ∷ []) (0 ∷ [])
    ∷ (Link Next ∷ Tells (Told 6) ∷ []) ∷ shows_b (times 2 (Kept 1) ++ IsShut ∷ IsShut ∷ []) [] (0 ∷ [])
    ∷ (Says 1 5 group_1 (Authority 5000) ∷ Says 1 6 group_1 (Transition 3000 5 2)
    ∷ Sends 1 3 (Announce 1 1 0) ∷ Sends 1 4 (RouteAsk 1 6 27) ∷ [])
    ∷ shows_b (times 2 (Given 1) ++ IsShut ∷ IsShut ∷ []) [] (0 ∷ []) ∷ []

-- the mission is ended before the route arrives, and the route is returned
abbrev pub route_for_an_ended_mission : List Scene
route_for_an_ended_mission =
    route_on_the_way ++ train 1 0 6 (EndOfMission (moving in_section_1)) ∷ Happens (Delivery 1 0 1)
    ∷ Happens (Delivery 0 1 2) ∷ Look ∷ []

abbrev pub route_for_an_ended_mission_shows : List (List Item)
route_for_an_ended_mission_shows =
    route_on_the_way_shows
    ++ nothing ∷ (Link Next ∷ Sends 1 2 (RouteReturn 1 (record { first = 4; count = 3 })) ∷ []) ∷ (Link Next ∷ [])
    ∷ shows_b (times 3 IsOpen ++ IsShut ∷ []) [] (0 ∷ []) ∷ []

-- the mission is ended with a pool, which is returned
abbrev pub end_of_mission_with_a_pool : List Scene
end_of_mission_with_a_pool =
    route_on_the_way ++ Happens (Delivery 1 0 1) ∷ train 1 0 6 (EndOfMission (moving in_section_1)) ∷ Look ∷ []

abbrev pub end_of_mission_with_a_pool_shows : List (List Item)
end_of_mission_with_a_pool_shows =
    route_on_the_way_shows
    ++ (Link Next ∷ []) ∷ (Sends 1 2 (RouteReturn 1 (record { first = 4; count = 3 })) ∷ [])
    ∷ shows_b (times 3 (Kept 1) ++ IsShut ∷ []) [] (0 ∷ []) ∷ []

-- ## The handover

-- Another centre supervises an awaited train until the train reports in a section of B. B reports this to A once.
abbrev pub awaited : List Scene
awaited =
    announced
    ++ (session 1 1 7
    ++ train 1 1 9 (Report in_section_1) ∷ train 1 1 9 (Request (at 104 100 (Some 200)))
    ∷ train 1 1 9 (Report (at 104 100 (Some 200)))
    ∷ train 1 1 10 (Report (at 104 150 (Some 200))) ∷ train 1 1 10 (Report (at 104 150 (Some 200))) ∷ [])

abbrev pub awaited_shows : List (List Item)
awaited_shows =
    announced_shows
    ++ (opened 1
    ++ silent NotSupervised ∷ silent NotSupervised ∷ (Sends 0 3 (TakingOver 1 1) ∷ []) ∷ nothing ∷ silent StaleStamp
    ∷ [])

-- A route arrives at a centre that has yielded. It is returned, and the next supervisor gives it.
abbrev pub route_after_the_yield : List Scene
route_after_the_yield =
    over_the_border
    ++ Happens (Set 1 7) ∷ Happens (Delivery 0 1 2)
    ∷ (session 1 1 7
    ++ train 1 1 9 (Report (at 104 100 (Some 200))) ∷ Happens (Delivery 1 0 2) ∷ Happens (Delivery 0 1 3)
    ∷ Happens (Delivery 0 1 4)
    ∷ train 1 1 10 (Request (at 104 100 (Some 200))) ∷ Happens (Delivery 1 0 3) ∷ Happens (Delivery 0 1 5) ∷ Look
    ∷ train 1 1 11 (Request (at 104 100 (Some 200))) ∷ Look ∷ [])

abbrev pub route_after_the_yield_shows : List (List Item)
route_after_the_yield_shows =
    over_the_border_shows
    ++ done 7 ∷ (Link Next ∷ [])
    ∷ (opened 1
    ++ (Sends 0 2 (TakingOver 1 1) ∷ []) ∷ (Link Next ∷ Sends 1 4 the_yield ∷ [])
    ∷ (Link Next ∷ Sends 0 3 (RouteInfo 1 (record { first = 7; count = 1 })) ∷ []) ∷ (Link Next ∷ [])
    ∷ (Says 1 2 82024 (Authority 3000) ∷ [])
    ∷ (Link Next ∷ Sends 1 5 (RouteReturn 1 (record { first = 7; count = 1 })) ∷ []) ∷ (Link Next ∷ [])
    ∷ shows_b (times 3 (Given 1) ++ IsOpen ∷ []) [] (1 ∷ []) ∷ (Says 1 3 82024 (Authority 4000) ∷ [])
    ∷ shows_b (times 4 (Given 1)) [] (1 ∷ []) ∷ [])

-- A wish arrives at a centre that has yielded. The next supervisor asks the train to shorten, and the hand is cut to
-- A's sections.
abbrev pub wish_at_the_yield : List Scene
wish_at_the_yield =
    announced
    ++ (session 1 1 7
    ++ train 1 1 9 (Report (at 104 100 (Some 200))) ∷ Happens (Unset 1 4) ∷ Happens (Unset 1 5)
    ∷ Happens (Delivery 1 0 2) ∷ Happens (Delivery 1 0 3)
    ∷ Happens (Delivery 1 0 4) ∷ Happens (Delivery 0 1 4) ∷ Look ∷ train 1 1 10 (ShorteningGranted 2 in_section_1)
    ∷ Look ∷ [])

abbrev pub wish_at_the_yield_shows : List (List Item)
wish_at_the_yield_shows =
    announced_shows
    ++ (opened 1
    ++ (Sends 0 3 (TakingOver 1 1) ∷ [])
    ∷ (Sends 0 4 (RouteWithdraw 1 4) ∷ Tells (Asked 4) ∷ []) ∷ (Sends 0 5 (RouteWithdraw 1 5) ∷ Tells (Asked 5) ∷ [])
    ∷ (Link Next ∷ []) ∷ (Link Next ∷ Sends 1 4 the_yield ∷ [])
    ∷ (Link Next ∷ []) ∷ (Link Next ∷ Says 1 2 group_1 (ShorteningRequest 3000) ∷ [])
    ∷ shows_b (times 3 (Given 1) ++ IsShut ∷ []) (4 ∷ 5 ∷ []) (1 ∷ [])
    ∷ (Tells (Told 4) ∷ Tells (Told 5) ∷ []) ∷ shows_b (times 2 IsShut ++ IsOpen ∷ IsShut ∷ []) [] (1 ∷ []) ∷ [])

-- ## The end of a hand

-- Train 2 has its right from B, and clears its only section. The right is returned to B, and serves a start there.
abbrev pub cleared_elsewhere : List Scene
cleared_elsewhere =
    right_comes
    ++ Happens (Set 1 5)
    ∷ (session 2 1 1
    ++ train 2 1 3 (StartOfMission true (at 105 600 (Some 200))) ∷ train 2 0 4 (Report (at 102 210 (Some 200))) ∷ Look
    ∷ train 2 1 4 (StartOfMission true (at 105 600 (Some 200))) ∷ Happens (Delivery 0 1 2)
    ∷ train 2 1 5 (StartOfMission true (at 105 600 (Some 200))) ∷ Look ∷ [])

abbrev pub cleared_elsewhere_shows : List (List Item)
cleared_elsewhere_shows =
    right_comes_shows
    ++ done 5
    ∷ (opened 2
    ++ (Says 2 2 unknown_group TrainRejected ∷ []) ∷ (Sends 1 2 (ReturnRight 2) ∷ [])
    ∷ shows (IsShut ∷ IsOpen ∷ times 3 IsShut ++ IsOpen ∷ times 2 IsShut) [] ([] ∷ [] ∷ [])
    ∷ (Says 2 3 unknown_group TrainRejected ∷ []) ∷ (Link Next ∷ []) ∷ (Says 2 4 unknown_group TrainAccepted ∷ [])
    ∷ shows (IsShut ∷ IsOpen ∷ times 3 IsShut ++ Given 2 ∷ times 2 IsShut) [] ([] ∷ (1 ∷ []) ∷ []) ∷ [])

-- a hand with a pool is cleared: the pool is returned, and the mission is over
abbrev pub cleared_with_a_pool : List Scene
cleared_with_a_pool =
    route_on_the_way ++ Happens (Delivery 1 0 1) ∷ train 1 0 6 (Report (at 104 210 (Some 200))) ∷ Look ∷ []

abbrev pub cleared_with_a_pool_shows : List (List Item)
cleared_with_a_pool_shows =
    route_on_the_way_shows
    ++ (Link Next ∷ []) ∷ (Sends 1 2 (RouteReturn 1 (record { first = 4; count = 3 })) ∷ [])
    ∷ shows (IsShut ∷ times 3 IsOpen ++ times 3 (Kept 1) ++ IsShut ∷ []) [] ([] ∷ [] ∷ []) ∷ []

-- A hand over the border is cleared. Its handover is cancelled, and a report at B has no effect.
abbrev pub cleared_over_the_border : List Scene
cleared_over_the_border =
    announced
    ++ (session 1 1 7
    ++ train 1 0 9 (Report (at 107 210 (Some 200))) ∷ Look ∷ Happens (Delivery 0 1 4) ∷ Happens (Delivery 0 1 5) ∷ Look
    ∷ train 1 1 10 (Report (at 107 210 (Some 200))) ∷ [])

abbrev pub cleared_over_the_border_shows : List (List Item)
cleared_over_the_border_shows =
    announced_shows
    ++ (opened 1
    ++ (Sends 1 4 (RouteReturn 1 (record { first = 4; count = 3 })) ∷ Sends 1 5 (Cancel 1 1) ∷ [])
    ∷ shows (IsShut ∷ times 3 IsOpen ++ times 3 (Kept 1) ++ IsShut ∷ []) [] ([] ∷ [] ∷ [])
    ∷ (Link Next ∷ []) ∷ (Link Next ∷ [])
    ∷ shows (IsShut ∷ times 6 IsOpen ++ IsShut ∷ []) [] ([] ∷ [] ∷ []) ∷ silent NotSupervised ∷ [])

-- The train clears the sections that it was to keep, and then grants with an older place. The whole hand is cut.
abbrev pub whole_hand_is_cut : List Scene
whole_hand_is_cut =
    request_to_the_border
    ++ Happens (Unset 0 3) ∷ train 1 0 6 (Report (at 103 210 (Some 200))) ∷ Look
    ∷ train 1 0 7 (ShorteningGranted 5 in_section_1) ∷ Look ∷ []

abbrev pub whole_hand_is_cut_shows : List (List Item)
whole_hand_is_cut_shows =
    request_to_the_border_shows
    ++ asks_to_shorten 5 ∷ nothing
    ∷ shows (IsShut ∷ times 2 IsOpen ++ Given 1 ∷ times 4 IsShut) (3 ∷ []) ((0 ∷ []) ∷ [] ∷ [])
    ∷ (Tells (Told 3) ∷ []) ∷ shows (IsShut ∷ times 2 IsOpen ++ times 5 IsShut) [] ([] ∷ [] ∷ []) ∷ []

-- ## A start that waits

-- A second start is silent. Its section is wished back, and is given back when the session is opened again.
abbrev pub session_opens_over_a_waiting_start : List Scene
session_opens_over_a_waiting_start =
    start_elsewhere
    ++ train 2 0 4 (StartOfMission true in_section_1) ∷ Happens (Unset 0 1) ∷ train 2 0 4 InitiationOfSession ∷ Look
    ∷ Happens (Delivery 1 0 1) ∷ []

abbrev pub session_opens_over_a_waiting_start_shows : List (List Item)
session_opens_over_a_waiting_start_shows =
    start_elsewhere_shows
    ++ silent WrongPhase ∷ (Tells (Asked 1) ∷ []) ∷ (Says 2 2 unknown_group SystemVersion ∷ Tells (Told 1) ∷ [])
    ∷ shows_section_1 IsShut ([] ∷ [] ∷ []) ∷ (Link Next ∷ Sends 1 2 (ReturnRight 2) ∷ []) ∷ []
