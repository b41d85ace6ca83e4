-- The logs of centres that ran side by side, and the definition of a merge of the logs.
use Rattle.std.specs.List.Sorted.{IsPermutation}
use Rattle.std.specs.Prelude.{[], ◌++◌, ◌+◌, ◌<◌, ◌==◌, ◌∷◌, ◌≡◌, ◌≤◌, All, AllPairs, Contains, false, filter, length}
use Rattle.std.specs.Prelude.{List, map, Ok, slice_get, Some, true, ℕ}
use Rattle.rbc_spec.specs.Centre.{beginning, Centre}
use Rattle.rbc_spec.specs.Frame.{Frame}
use Rattle.rbc_spec.specs.Line.{is_centre, Line}
use Rattle.rbc_spec.specs.Outcome.{Outcome}
use Rattle.rbc_spec.specs.Step.{Deliver, Event, Set, step, Train, Unset}
use Rattle.rbc_spec.specs.World as world
use Rattle.rbc_spec.specs.World.{Answer, Answered, new_world, World, world_run}

-- ## One log

-- an event that a centre took, and the outcome of its step
pub record LogEntry : Type 0 where
  pub centre : ℕ
  pub event : Event
  pub outcome : Outcome

-- the entries, in order, are the steps that lead centre c from a state to its last
abbrev pub Replays : Line → ℕ → Centre → List LogEntry → Centre → Type 0
Replays line c k [] last = last ≡ k
Replays line c k (e ∷ entries) last =
    (mid : Centre) × (e.centre ≡ c) × (step line c e.event k ≡ Ok (e.outcome, mid)) × Replays line c mid entries last

-- the frames that the entries sent to centre d, in order
abbrev pub sent_to : ℕ → List LogEntry → List Frame
sent_to d [] = []
sent_to d (e ∷ entries) = e.outcome.frames d ++ sent_to d entries

-- a frame that the event brings has a stamp below this one
abbrev pub IsAboveItsFrame : Event → ℕ → Type 0
IsAboveItsFrame (Deliver from f) stamp = f.stamp < stamp
IsAboveItsFrame event stamp = Unit {0}

-- A step and its stamp. The clock then shows the stamp, which is above the old clock and above the stamp of a frame
-- that arrived. The frames of the step follow those sent before on each link. They have that stamp, and the next
-- numbers of the link.
pub record IsStamped (k : Centre) (event : Event) (outcome : Outcome) (new : Centre) : Type 0 where
  pub clock : new.clock ≡ outcome.stamp
  pub above_clock : k.clock < outcome.stamp
  pub above_frame : IsAboveItsFrame event outcome.stamp
  pub sent : (d : ℕ) → new.sent d ≡ k.sent d ++ outcome.frames d
  pub frames : (d : ℕ) → All (λ f. f.stamp ≡ outcome.stamp) (outcome.frames d)
  pub numbers : (d i : ℕ) (f : Frame) → slice_get (outcome.frames d) i ≡ Some f → f.number ≡ length (k.sent d) + i + 1

-- ## The logs of a line

-- a log for each centre of the line: its entries lead the centre from its initial state to its last
pub record AreLogs (line : Line) (logs : ℕ → List LogEntry) (ends : ℕ → Centre) : Type 0 where
  pub replays : (c : ℕ) → is_centre line c ≡ true → Replays line c (beginning line c) (logs c) (ends c)
  pub no_other : (c : ℕ) → is_centre line c ≡ false → logs c ≡ []

-- The frame that the event brings to centre c is in the log of the centre that it names as sender. It is there as sent
-- to c, with its number, stamp and body.
abbrev pub IsFromLog : (ℕ → List LogEntry) → ℕ → Event → Type 0
IsFromLog logs c (Deliver from f) = Contains (sent_to c (logs from)) f
IsFromLog logs c event = Unit {0}

-- each frame that was delivered is in its sender's log
abbrev pub IsLegal : (ℕ → List LogEntry) → Type 0
IsLegal logs = (c : ℕ) → All (λ e. IsFromLog logs c e.event) (logs c)

-- ## Merging

-- the entries of centre c, in the order that they have in the list
abbrev pub entries_of : ℕ → List LogEntry → List LogEntry
entries_of c entries = filter (λ e. e.centre == c) entries

-- by stamp, and of one stamp by centre
abbrev pub ComesBefore : LogEntry → LogEntry → Type 0
ComesBefore a b = (a.outcome.stamp ≤ b.outcome.stamp) × (a.outcome.stamp ≡ b.outcome.stamp → a.centre ≤ b.centre)

abbrev pub IsInOrder : List LogEntry → Type 0
IsInOrder entries = AllPairs ComesBefore entries

-- the list has each entry of each log once, each log's in its order, and no other; and it is in the order of stamps
pub record IsMerge (logs : ℕ → List LogEntry) (merged : List LogEntry) : Type 0 where
  pub each : (c : ℕ) → entries_of c merged ≡ logs c
  pub in_order : IsInOrder merged

-- ## The run of the world

-- the event of the world when centre c takes this event
abbrev pub happening : ℕ → Event → world.Event
happening c (Train m) = world.Bytes c (Ok m)
happening c (Set s) = world.Set c s
happening c (Unset s) = world.Unset c s
happening c (Deliver from f) = world.Delivery from c f.number

abbrev pub happened : LogEntry → world.Event
happened e = happening e.centre e.event

-- the answer of the world
abbrev pub answered : LogEntry → Answer
answered e = Answered e.outcome

-- From its initial state, the world gives the answers of the entries to their events. Its centres are in these states
-- then.
pub record IsWorldRun (line : Line) (entries : List LogEntry) (ends : ℕ → Centre) : Type 0 where
  pub last : World
  pub runs : world_run line (new_world line) (map happened entries) ≡ Ok (map answered entries, last)
  pub ends_so : (c : ℕ) → is_centre line c ≡ true → last.at c ≡ ends c

-- ## The claims

-- Suppose that each log replays its centre from the initial state, and that each frame that was delivered is in its
-- sender's log. Then every merge of the logs is one run of the world, whatever the centres did side by side.
abbrev pub FamilyTheorem : Type 0
FamilyTheorem = (line : Line) (logs : ℕ → List LogEntry) (ends : ℕ → Centre) (merged : List LogEntry)
    → AreLogs line logs ends → IsLegal logs → IsMerge logs merged → IsWorldRun line merged ends

-- a list of all entries of all logs, each once, is a merge of the logs if it is in the order of stamps
abbrev pub SortedTheorem : Type 0
SortedTheorem = (line : Line) (logs : ℕ → List LogEntry) (ends : ℕ → Centre) (together sorted : List LogEntry)
    → AreLogs line logs ends → ((c : ℕ) → entries_of c together ≡ logs c) → IsPermutation together sorted
    → IsInOrder sorted
    → IsMerge logs sorted
