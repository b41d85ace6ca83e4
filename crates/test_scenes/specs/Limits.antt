-- Steps of a centre that are refused, frames from a centre to which it has no link, and a whole run.
use Rattle.std.specs.Prelude.{ℕ, List, [], ◌∷◌, map, Option, Some, None, Result, Ok, Err}
use Rattle.rbc_spec.specs.SectionRuns.{SectionRun}
use Rattle.rbc_spec.specs.Frame.{Frame, Body, GiveRight}
use Rattle.rbc_spec.specs.Acts.{begun, ask_route}
use Rattle.rbc_spec.specs.Outcome.{Outcome, Taken, Early, NoLink}
use Rattle.rbc_spec.specs.Centre.{Centre, beginning}
use Rattle.rbc_spec.specs.Line.{Line}
use Rattle.rbc_spec.specs.Step.{Event, Set, Deliver, Refusal, ClockEnd, step}
use Rattle.rbc_spec.specs.Message.{InitiationOfSession, SystemVersion, unknown_group}
use Rattle.rbc_spec.specs.World as world
use Rattle.rbc_spec.specs.World.{World, Answer}
use Rattle.test_scenes.specs.Scene.{line, group_1, times, Item, Says, items, done}

-- the stamp of a step with the link's answer, or the refusal of the step
abbrev pub Stamped : Type 0
Stamped = Result (ℕ × Option Taken) Refusal

-- a step and the steps after it; a refused step leaves the centre as it was
abbrev pub stamped : Result (Outcome × Centre) Refusal → Centre → (Centre → List Stamped) → List Stamped
stamped (Ok done) k others = Ok (done.0.stamp, done.0.link) ∷ others done.1
stamped (Err why) k others = Err why ∷ others k

-- the steps of centre A
unfoldable pub stamps : Line → List Event → Centre → List Stamped
stamps l [] k = []
stamps l (event ∷ events) k = stamped (step l 0 event k) k (stamps l events)

-- a frame of B or C with this number and stamp
abbrev pub frame : (number stamp : ℕ) → Frame
frame number stamp = record { number = number; stamp = stamp; body = GiveRight 2 }

-- the last stamp is used, and no step follows it
abbrev pub last_stamp_is_taken : List Event
last_stamp_is_taken = Deliver 1 (frame 9 1073741822) ∷ Set 0 ∷ []

abbrev pub last_stamp_is_taken_shows : List Stamped
last_stamp_is_taken_shows = Ok (1073741823, Some Early) ∷ Err ClockEnd ∷ []

-- a frame with the last stamp is refused
abbrev pub stamp_past_the_last : List Event
stamp_past_the_last = Deliver 1 (frame 9 1073741823) ∷ Set 0 ∷ []

abbrev pub stamp_past_the_last_shows : List Stamped
stamp_past_the_last_shows = Err ClockEnd ∷ Ok (1, None) ∷ []

-- a centre has no link to itself, and none to centre 7, which the line does not have
abbrev pub frame_without_a_link : List Event
frame_without_a_link = Deliver 0 (frame 1 4) ∷ Deliver 7 (frame 1 2) ∷ Set 0 ∷ []

abbrev pub frame_without_a_link_shows : List Stamped
frame_without_a_link_shows = Ok (5, Some NoLink) ∷ Ok (6, Some NoLink) ∷ Ok (7, None) ∷ []

-- a centre that has sent this many frames to each other centre
abbrev pub having_sent : ℕ → Centre
having_sent count = record (beginning line 0) { sent = λ d. times count (frame 1 1) }

-- ## The last section

-- the question for sections in advance of a hand that ends at a border
abbrev pub asks_ahead : SectionRun → List Body
asks_ahead hand =
    (ask_route 1 1 (record (begun line
    (record { track = 0; group = group_1; front = 16200; rear = None })) { hand = hand }) (beginning line 0)).frames 1

-- ## A whole run

-- the items of the answers of a run
abbrev pub run_items : Result (List Answer × World) Refusal → List (List Item)
run_items (Ok run) = map (λ answer. items line answer) run.0
run_items (Err why) = []

-- a section is set, and a session is opened
abbrev pub set_and_session : List world.Event
set_and_session =
    world.Set 0 1 ∷ world.Bytes 0 (Ok (record { t_train = 1; nid_engine = 1; body = InitiationOfSession })) ∷ []

abbrev pub set_and_session_shows : List (List Item)
set_and_session_shows = done 1 ∷ (Says 1 1 unknown_group SystemVersion ∷ []) ∷ []
