-- A train runs over three centres. The second centre has one short section.
use Rattle.std.specs.Prelude.{[], ◌++◌, ◌∷◌, false, List, pos, Some, true, ℕ}
use Rattle.rbc_spec.specs.Frame.{Announce, AskRight, Cancel, GiveRight, RouteAsk, RouteInfo, RouteReturn, RouteWithdraw}
use Rattle.rbc_spec.specs.Frame.{TakingOver, Yield, YieldedPlace}
use Rattle.rbc_spec.specs.Message.{Authority, DataAcknowledged, EndOfMission, EndSession, Report, Request}
use Rattle.rbc_spec.specs.Message.{StartOfMission, TrainAccepted, TrainData, Transition, unknown_group}
use Rattle.rbc_spec.specs.Outcome.{Asked, MissionEnded, Next, StaleStamp, Told}
use Rattle.rbc_spec.specs.Place.{Position}
use Rattle.rbc_spec.specs.World.{Delivery, Set, Unset}
use Rattle.test_scenes.specs.Requests.{start_and_request, start_and_request_shows}
use Rattle.test_scenes.specs.Scene.{at, done, Given, group_1, Happens, in_section_1, IsOpen, IsShut, Item, Kept, Link}
use Rattle.test_scenes.specs.Scene.{Look, Says, Scene, Sends, session, shows, Silence, Tells, times, train}
use Rattle.test_scenes.specs.Starts.{opened}

-- ## From A to B

-- the route over B's section arrives, and is given to the train
abbrev pub from_the_first : List Scene
from_the_first =
    Happens (Set 0 1) ∷ Happens (Set 1 2) ∷ Happens (Set 2 3)
    ∷ (start_and_request in_section_1
    ++ Happens (Delivery 0 1 1) ∷ Look ∷ Happens (Delivery 1 0 1) ∷ train 1 0 6 (Request in_section_1) ∷ [])

abbrev pub from_the_first_shows : List (List Item)
from_the_first_shows =
    done 1 ∷ done 2 ∷ done 3
    ∷ (start_and_request_shows group_1 1000 (Sends 1 1 (RouteAsk 1 2 31) ∷ [])
    ++ (Link Next ∷ Sends 0 1 (RouteInfo 1 (record { first = 2; count = 1 })) ∷ [])
    ∷ shows (IsShut ∷ Given 1 ∷ Kept 1 ∷ IsOpen ∷ IsShut ∷ []) [] ((0 ∷ []) ∷ [] ∷ [])
    ∷ (Link Next ∷ [])
    ∷ (Says 1 5 group_1 (Authority 1200) ∷ Says 1 6 group_1 (Transition 1000 5 2) ∷ Sends 1 2 (Announce 1 1 0) ∷ [])
    ∷ [])

abbrev pub border_of_the_first : List Scene
border_of_the_first = from_the_first ++ Look ∷ []

abbrev pub border_of_the_first_shows : List (List Item)
border_of_the_first_shows =
    from_the_first_shows ++ shows (IsShut ∷ Given 1 ∷ Given 1 ∷ IsOpen ∷ IsShut ∷ []) [] ((0 ∷ []) ∷ [] ∷ []) ∷ []

-- in section 2, with the rear still in section 1
abbrev pub in_section_2 : Position
in_section_2 = at 102 100 (Some 250)

-- the last place that A received
abbrev pub last_at_a : YieldedPlace
last_at_a = record { track = 0; group = group_1; front = pos 16200; rear = Some (pos 13900) }

-- B takes over, and the route over C's first section arrives, and is given to the train
abbrev pub from_the_second : List Scene
from_the_second =
    from_the_first
    ++ Happens (Delivery 0 1 2)
    ∷ (session 1 1 7
    ++ train 1 1 9 (Report in_section_2) ∷ Happens (Delivery 1 0 2) ∷ Look ∷ Happens (Delivery 0 1 3) ∷ Look
    ∷ train 1 1 10 (Request in_section_2) ∷ Happens (Delivery 1 2 1) ∷ Happens (Delivery 2 1 1)
    ∷ train 1 1 11 (Request in_section_2) ∷ [])

abbrev pub from_the_second_shows : List (List Item)
from_the_second_shows =
    from_the_first_shows
    ++ (Link Next ∷ [])
    ∷ (opened 1
    ++ (Sends 0 2 (TakingOver 1 1) ∷ [])
    ∷ (Link Next ∷ Sends 1 3 (Yield 1 1 6 true false last_at_a (record { first = 1; count = 2 })) ∷ [])
    ∷ shows (IsShut ∷ Given 1 ∷ Given 1 ∷ IsOpen ∷ IsShut ∷ []) [] ([] ∷ [] ∷ [])
    ∷ (Link Next ∷ []) ∷ shows (IsShut ∷ Given 1 ∷ Given 1 ∷ IsOpen ∷ IsShut ∷ []) [] ((1 ∷ []) ∷ [] ∷ [])
    ∷ (Says 1 2 82022 (Authority 200) ∷ Sends 2 1 (RouteAsk 1 3 30) ∷ [])
    ∷ (Link Next ∷ Sends 1 1 (RouteInfo 1 (record { first = 3; count = 1 })) ∷ []) ∷ (Link Next ∷ [])
    ∷ (Says 1 3 82022 (Authority 1200) ∷ Says 1 4 82022 (Transition 200 5 3)
    ∷ Sends 2 2 (Announce 1 1 0) ∷ Sends 2 3 (RouteAsk 1 4 29) ∷ []) ∷ [])

-- sections 1 to 3 are given to train 1, which B supervises
abbrev pub shows_three_given : List ℕ → List Item
shows_three_given wished = shows (IsShut ∷ times 3 (Given 1) ++ IsShut ∷ []) wished ((1 ∷ []) ∷ [] ∷ [])

abbrev pub second_takes_over : List Scene
second_takes_over = from_the_second ++ Look ∷ []

abbrev pub second_takes_over_shows : List (List Item)
second_takes_over_shows = from_the_second_shows ++ shows_three_given [] ∷ []

-- ## From B to C

-- C receives the announcement of the train and its report, and takes over
abbrev pub to_the_third : List Scene
to_the_third =
    from_the_second
    ++ Happens (Delivery 1 2 2) ∷ Happens (Delivery 1 2 3)
    ∷ (session 1 2 12 ++ train 1 2 14 (Report (at 103 50 (Some 200))) ∷ [])

abbrev pub to_the_third_shows : List (List Item)
to_the_third_shows =
    from_the_second_shows
    ++ (Link Next ∷ []) ∷ (Link Next ∷ Sends 1 2 (RouteInfo 1 (record { first = 4; count = 0 })) ∷ [])
    ∷ (opened 1 ++ (Sends 1 3 (TakingOver 1 1) ∷ []) ∷ [])

-- the last place that B received
abbrev pub last_at_b : YieldedPlace
last_at_b = record { track = 0; group = 82022; front = pos 21200; rear = Some (pos 18400) }

-- B yields the whole hand, in which the first section is of A
abbrev pub yielded_on : List Scene
yielded_on = to_the_third ++ Happens (Delivery 2 1 2) ∷ Happens (Delivery 2 1 3) ∷ []

abbrev pub yielded_on_shows : List (List Item)
yielded_on_shows =
    to_the_third_shows
    ++ (Link Next ∷ []) ∷ (Link Next ∷ Sends 2 4 (Yield 1 1 11 true false last_at_b (record { first = 1; count = 3 }))
    ∷ []) ∷ []

abbrev pub yield_with_a_third_home : List Scene
yield_with_a_third_home = yielded_on ++ Look ∷ Happens (Delivery 1 2 4) ∷ Look ∷ []

-- sections 1 to 3 are given to train 1, which C supervises
abbrev pub shows_at_the_third : List ℕ → List Item
shows_at_the_third wished = shows (IsShut ∷ times 3 (Given 1) ++ IsShut ∷ []) wished ((2 ∷ []) ∷ [] ∷ [])

abbrev pub yield_with_a_third_home_shows : List (List Item)
yield_with_a_third_home_shows =
    yielded_on_shows
    ++ shows (IsShut ∷ times 3 (Given 1) ++ IsShut ∷ []) [] ([] ∷ [] ∷ []) ∷ (Link Next ∷ []) ∷ shows_at_the_third []
    ∷ []

-- in section 3, with sections 1 and 2 in rear of the train
abbrev pub in_section_3 : Position
in_section_3 = at 103 300 (Some 200)

-- C returns both cleared sections, each to its home. Each home then has nothing more of the train, and ends its
-- session.
abbrev pub each_home_gets_its_section_back : List Scene
each_home_gets_its_section_back =
    yielded_on
    ++ Happens (Delivery 1 2 4) ∷ train 1 2 15 (Report in_section_3) ∷ Look ∷ Happens (Delivery 2 0 1) ∷ Look
    ∷ Happens (Delivery 2 1 4) ∷ Look ∷ []

abbrev pub each_home_gets_its_section_back_shows : List (List Item)
each_home_gets_its_section_back_shows =
    yielded_on_shows
    ++ (Link Next ∷ [])
    ∷ (Sends 0 1 (RouteReturn 1 (record { first = 1; count = 1 }))
    ∷ Sends 1 4 (RouteReturn 1 (record { first = 2; count = 1 })) ∷ [])
    ∷ shows (IsShut ∷ Kept 1 ∷ Kept 1 ∷ Given 1 ∷ IsShut ∷ []) [] ((2 ∷ []) ∷ [] ∷ [])
    ∷ (Link Next ∷ Says 1 7 unknown_group (EndSession 5 1) ∷ [])
    ∷ shows (IsShut ∷ IsOpen ∷ Kept 1 ∷ Given 1 ∷ IsShut ∷ []) [] ((2 ∷ []) ∷ [] ∷ [])
    ∷ (Link Next ∷ Says 1 5 unknown_group (EndSession 5 2) ∷ [])
    ∷ shows (IsShut ∷ IsOpen ∷ IsOpen ∷ Given 1 ∷ IsShut ∷ []) [] ((2 ∷ []) ∷ [] ∷ []) ∷ []

-- The interlocking of A wishes a section back, and A sends the wish to each other centre. The wish is met when C
-- returns the section.
abbrev pub wish_at_a_third_centre : List Scene
wish_at_a_third_centre =
    yielded_on
    ++ Happens (Delivery 1 2 4) ∷ Happens (Unset 0 1) ∷ Happens (Delivery 0 1 4) ∷ Happens (Delivery 0 2 1) ∷ Look
    ∷ train 1 2 15 (Report in_section_3) ∷ Look ∷ Happens (Delivery 2 0 1) ∷ Look ∷ []

abbrev pub wish_at_a_third_centre_shows : List (List Item)
wish_at_a_third_centre_shows =
    yielded_on_shows
    ++ (Link Next ∷ [])
    ∷ (Sends 1 4 (RouteWithdraw 1 1) ∷ Sends 2 1 (RouteWithdraw 1 1) ∷ Tells (Asked 1) ∷ []) ∷ (Link Next ∷ [])
    ∷ (Link Next ∷ [])
    ∷ shows_at_the_third (1 ∷ [])
    ∷ (Sends 0 1 (RouteReturn 1 (record { first = 1; count = 1 }))
    ∷ Sends 1 4 (RouteReturn 1 (record { first = 2; count = 1 })) ∷ [])
    ∷ shows (IsShut ∷ Kept 1 ∷ Kept 1 ∷ Given 1 ∷ IsShut ∷ []) (1 ∷ []) ((2 ∷ []) ∷ [] ∷ [])
    ∷ (Link Next ∷ Says 1 7 unknown_group (EndSession 5 1) ∷ Tells (Told 1) ∷ [])
    ∷ shows (IsShut ∷ IsShut ∷ Kept 1 ∷ Given 1 ∷ IsShut ∷ []) [] ((2 ∷ []) ∷ [] ∷ []) ∷ []

-- A mission that ended at B is yielded as ended. Both other sections are cleared, so B ends its session with the Yield.
abbrev pub ended_mission_is_yielded : List Scene
ended_mission_is_yielded =
    to_the_third
    ++ train 1 1 15 (EndOfMission (at 103 210 (Some 200))) ∷ Happens (Delivery 2 1 2) ∷ Happens (Delivery 2 1 3) ∷ Look
    ∷ Happens (Delivery 1 2 4)
    ∷ train 1 2 15 (Request (at 103 210 (Some 200))) ∷ train 1 2 16 (Request (at 103 210 (Some 200))) ∷ Look ∷ []

abbrev pub ended_mission_is_yielded_shows : List (List Item)
ended_mission_is_yielded_shows =
    to_the_third_shows
    ++ (Sends 0 3 (RouteReturn 1 (record { first = 1; count = 1 })) ∷ []) ∷ (Link Next ∷ [])
    ∷ (Link Next ∷ Says 1 5 unknown_group (EndSession 5 2)
    ∷ Sends 2 4 (Yield 1 1 15 true true
    (record { track = 0; group = 82023; front = pos 24300; rear = Some (pos 22000) })
    (record { first = 3; count = 1 })) ∷ [])
    ∷ shows (IsShut ∷ Kept 1 ∷ IsOpen ∷ Given 1 ∷ IsShut ∷ []) [] ([] ∷ [] ∷ [])
    ∷ (Link Next ∷ []) ∷ (Silence StaleStamp ∷ []) ∷ (Silence MissionEnded ∷ [])
    ∷ shows (IsShut ∷ Kept 1 ∷ IsOpen ∷ Given 1 ∷ IsShut ∷ []) [] ((2 ∷ []) ∷ [] ∷ []) ∷ []

-- A mission ends at B at standstill, in B's section. C's section is returned, so the handover is cancelled. A's section
-- is in rear of the train and stays in the hand. C has replied that it takes over, and does not get the mission.
abbrev pub stands_still_before_the_third : List Scene
stands_still_before_the_third =
    to_the_third
    ++ train 1 1 15 (EndOfMission in_section_2) ∷ Look ∷ Happens (Delivery 2 1 2) ∷ Happens (Delivery 2 1 3)
    ∷ Happens (Delivery 1 2 4) ∷ Happens (Delivery 1 2 5) ∷ Look ∷ []

abbrev pub stands_still_before_the_third_shows : List (List Item)
stands_still_before_the_third_shows =
    to_the_third_shows
    ++ (Sends 2 4 (RouteReturn 1 (record { first = 3; count = 1 })) ∷ Sends 2 5 (Cancel 1 1) ∷ [])
    ∷ shows (IsShut ∷ Given 1 ∷ Given 1 ∷ Kept 1 ∷ IsShut ∷ []) [] ((1 ∷ []) ∷ [] ∷ [])
    ∷ (Link Next ∷ []) ∷ (Link Next ∷ []) ∷ (Link Next ∷ []) ∷ (Link Next ∷ [])
    ∷ shows (IsShut ∷ Given 1 ∷ Given 1 ∷ IsOpen ∷ IsShut ∷ []) [] ((1 ∷ []) ∷ [] ∷ []) ∷ []

-- ## With the registrar at B

-- A and C are linked, though they have no border on a track of the line, and neither is the registrar
abbrev pub any_two_are_linked : List Scene
any_two_are_linked =
    Happens (Set 0 1) ∷ Happens (Set 1 2)
    ∷ (session 1 0 1
    ++ train 1 0 3 (StartOfMission true in_section_1) ∷ Happens (Delivery 0 1 1) ∷ Happens (Delivery 1 0 1)
    ∷ train 1 0 4 (TrainData in_section_1) ∷ train 1 0 5 (Request in_section_1) ∷ Happens (Delivery 0 1 2)
    ∷ Happens (Delivery 1 0 2)
    ∷ train 1 0 6 (Request in_section_1) ∷ Happens (Delivery 0 1 3)
    ∷ (session 1 1 7
    ++ train 1 1 9 (Report in_section_2) ∷ Happens (Delivery 1 0 3) ∷ Happens (Unset 0 1) ∷ Happens (Delivery 0 2 1)
    ∷ Look ∷ []))

abbrev pub any_two_are_linked_shows : List (List Item)
any_two_are_linked_shows =
    done 1 ∷ done 2
    ∷ (opened 1
    ++ (Sends 1 1 (AskRight 1) ∷ []) ∷ (Link Next ∷ Sends 0 1 (GiveRight 1) ∷ [])
    ∷ (Link Next ∷ Says 1 2 unknown_group TrainAccepted ∷ [])
    ∷ (Says 1 3 unknown_group (DataAcknowledged 4) ∷ [])
    ∷ (Says 1 4 group_1 (Authority 1000) ∷ Sends 1 2 (RouteAsk 1 2 31) ∷ [])
    ∷ (Link Next ∷ Sends 0 2 (RouteInfo 1 (record { first = 2; count = 1 })) ∷ []) ∷ (Link Next ∷ [])
    ∷ (Says 1 5 group_1 (Authority 1200) ∷ Says 1 6 group_1 (Transition 1000 5 2) ∷ Sends 1 3 (Announce 1 1 0) ∷ [])
    ∷ (Link Next ∷ [])
    ∷ (opened 1
    ++ (Sends 0 3 (TakingOver 1 1) ∷ [])
    ∷ (Link Next ∷ Sends 1 4 (Yield 1 1 6 true false last_at_a (record { first = 1; count = 2 })) ∷ [])
    ∷ (Sends 1 5 (RouteWithdraw 1 1) ∷ Sends 2 1 (RouteWithdraw 1 1) ∷ Tells (Asked 1) ∷ []) ∷ (Link Next ∷ [])
    ∷ shows (IsShut ∷ Given 1 ∷ Given 1 ∷ IsShut ∷ IsShut ∷ []) (1 ∷ []) ([] ∷ [] ∷ []) ∷ []))
