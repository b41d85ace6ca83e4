-- A train is handed over from A to B, or its handover is cancelled.
use Rattle.std.specs.Prelude.{[], ◌++◌, ◌+◌, ◌∷◌, false, List, pos, Some, true, ℕ}
use Rattle.rbc_spec.specs.Frame.{Body, Cancel, RouteInfo, RouteReturn, RouteWithdraw, TakingOver, Yield}
use Rattle.rbc_spec.specs.Message.{EndSession, Report, ShorteningGranted, ShorteningRequest, unknown_group}
use Rattle.rbc_spec.specs.Outcome.{Asked, Next, Old, StaleStamp}
use Rattle.rbc_spec.specs.World.{Delivery, Unset}
use Rattle.test_scenes.specs.Requests.{over_the_border, over_the_border_shows, shows_six_given}
use Rattle.test_scenes.specs.Scene.{at, Given, group_1, Happens, in_section_1, IsOpen, IsShut, Item, Kept, Link, Look}
use Rattle.test_scenes.specs.Scene.{LookAtFrame, Says, Scene, Sends, session, shows, ShowsFrame, Tells, times, train}
use Rattle.test_scenes.specs.Starts.{opened, silent}

-- B receives the announcement and the question for more sections, and has no section to lend
abbrev pub announced : List Scene
announced = over_the_border ++ Happens (Delivery 0 1 2) ∷ Happens (Delivery 0 1 3) ∷ []

abbrev pub announced_shows : List (List Item)
announced_shows =
    over_the_border_shows ++ (Link Next ∷ [])
    ∷ (Link Next ∷ Sends 0 2 (RouteInfo 1 (record { first = 7; count = 0 })) ∷ []) ∷ []

-- the supervision in one frame: the last place, and the hand of sections 1 to 6
abbrev pub the_yield : Body
the_yield =
    Yield 1 1 6 true false (record { track = 0; group = group_1; front = pos 16200; rear = Some (pos 13900) })
    (record { first = 1; count = 6 })

-- The train reports to B in section 4, with T_TRAIN from this number on, and B takes over. A yields. A frame that is
-- delivered twice is old.
abbrev pub handed_over : ℕ → List Scene
handed_over t_train =
    announced
    ++ session 1 1 t_train
    ++ train 1 1 (t_train + 2) (Report (at 104 100 (Some 200))) ∷ Happens (Delivery 1 0 2) ∷ Happens (Delivery 1 0 3)
    ∷ Look
    ∷ Happens (Delivery 1 0 3) ∷ Look ∷ Happens (Delivery 1 0 3) ∷ Look ∷ LookAtFrame 0 1 4 ∷ Happens (Delivery 0 1 4)
    ∷ []

abbrev pub handed_over_shows : List (List Item)
handed_over_shows =
    announced_shows
    ++ opened 1
    ++ (Sends 0 3 (TakingOver 1 1) ∷ []) ∷ (Link Next ∷ [])
    ∷ (Link Next ∷ Sends 1 4 the_yield ∷ []) ∷ shows_six_given []
    ∷ (Link Old ∷ []) ∷ shows_six_given [] ∷ (Link Old ∷ []) ∷ shows_six_given []
    ∷ (ShowsFrame (Some (record { number = 4; stamp = 17; body = the_yield })) ∷ []) ∷ (Link Next ∷ []) ∷ []

abbrev pub handover : List Scene
handover = handed_over 7 ++ Look ∷ []

abbrev pub handover_shows : List (List Item)
handover_shows = handed_over_shows ++ shows_six_given (1 ∷ []) ∷ []

-- the train clears A's sections, which are returned to A
abbrev pub cleared_in_rear_of_the_border : List Scene
cleared_in_rear_of_the_border = Look ∷ Happens (Delivery 1 0 4) ∷ Look ∷ []

-- they are open, and A ends its session
abbrev pub cleared_in_rear_of_the_border_shows : List (List Item)
cleared_in_rear_of_the_border_shows =
    shows (IsShut ∷ times 3 (Kept 1) ++ times 3 (Given 1) ++ IsShut ∷ []) [] ((1 ∷ []) ∷ [] ∷ [])
    ∷ (Link Next ∷ Says 1 7 unknown_group (EndSession 5 1) ∷ [])
    ∷ shows (IsShut ∷ times 3 IsOpen ++ times 3 (Given 1) ++ IsShut ∷ []) [] ((1 ∷ []) ∷ [] ∷ []) ∷ []

-- one frame returns A's sections
abbrev pub returns_home : List Item
returns_home = Sends 0 4 (RouteReturn 1 (record { first = 1; count = 3 })) ∷ []

abbrev pub return_after_handover : List Scene
return_after_handover = handed_over 7 ++ train 1 1 10 (Report (at 104 300 (Some 200))) ∷ cleared_in_rear_of_the_border

abbrev pub return_after_handover_shows : List (List Item)
return_after_handover_shows = handed_over_shows ++ returns_home ∷ cleared_in_rear_of_the_border_shows

-- The train's messages to B begin with T_TRAIN 1. After the Yield a message with a T_TRAIN that A has received before
-- is stale at B.
abbrev pub yield_carries_the_last_stamp_heard : List Scene
yield_carries_the_last_stamp_heard =
    handed_over 1
    ++ train 1 1 5 (Report (at 104 300 (Some 200))) ∷ train 1 1 7 (Report (at 104 300 (Some 200)))
    ∷ cleared_in_rear_of_the_border

abbrev pub yield_carries_the_last_stamp_heard_shows : List (List Item)
yield_carries_the_last_stamp_heard_shows =
    handed_over_shows ++ silent StaleStamp ∷ returns_home ∷ cleared_in_rear_of_the_border_shows

-- section 4 is wished back, and the hand is cut before it, while B is taking over
abbrev pub cancelled_before_taking_over : List Scene
cancelled_before_taking_over =
    announced
    ++ Happens (Unset 1 4) ∷ Happens (Delivery 1 0 2) ∷ Happens (Delivery 1 0 3) ∷ Look
    ∷ (session 1 1 7
    ++ train 1 1 9 (Report (at 104 100 (Some 200))) ∷ train 1 0 10 (ShorteningGranted 7 in_section_1) ∷ Look
    ∷ Happens (Delivery 1 0 4) ∷ Look ∷ [])

-- A goes on supervising the train
abbrev pub cancelled_before_taking_over_shows : List (List Item)
cancelled_before_taking_over_shows =
    announced_shows
    ++ (Sends 0 3 (RouteWithdraw 1 4) ∷ Tells (Asked 4) ∷ []) ∷ (Link Next ∷ [])
    ∷ (Link Next ∷ Says 1 7 group_1 (ShorteningRequest 3000) ∷ [])
    ∷ shows (IsShut ∷ times 6 (Given 1) ++ IsShut ∷ []) (4 ∷ []) ((0 ∷ []) ∷ [] ∷ [])
    ∷ (opened 1
    ++ (Sends 0 4 (TakingOver 1 1) ∷ [])
    ∷ (Sends 1 4 (RouteReturn 1 (record { first = 4; count = 3 })) ∷ Sends 1 5 (Cancel 1 1) ∷ [])
    ∷ shows (IsShut ∷ times 3 (Given 1) ++ times 3 (Kept 1) ++ IsShut ∷ []) (4 ∷ []) ((0 ∷ []) ∷ [] ∷ [])
    ∷ (Link Next ∷ []) ∷ shows (IsShut ∷ times 3 (Given 1) ++ times 3 (Kept 1) ++ IsShut ∷ []) (4 ∷ [])
    ((0 ∷ []) ∷ [] ∷ []) ∷ [])
