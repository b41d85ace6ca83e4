-- The bytes that running centres read and write, and the logs that are gathered at the end.
use Rattle.std.specs.Prelude.{[], ◌++◌, ◌-◌, ◌∷◌, ◌≡◌, All, Contains, drop, List, map, Option, slice_get, Some, ℕ}
use Rattle.law_crash.specs.Crashes.{AreSafe}
use Rattle.law_logs.specs.Logs.{LogEntry, Replays}
use Rattle.law_logs.specs.Messages.{told_to}
use Rattle.rbc_centre.specs.declared.event.Event.{Event}
use Rattle.rbc_centre.specs.declared.event.Event.TheVariants.{Deliver, Set, Train, Unset}
use Rattle.rbc_log.specs.Log.{LogValue}
use Rattle.rbc_log.specs.Merge.{logs_by}
use Rattle.rbc_msgs.specs.Streams.{IsRest, Spell}
use Rattle.rbc_msgs.specs.TrainText.{TrainText}
use Rattle.rbc_node.specs.Gather.{AreFound, AreShared, IsFamilyOf}
use Rattle.rbc_node.specs.Node.{CommitsAt}
use Rattle.rbc_node.specs.Receipts.{ShareValue}
use Rattle.rbc_spec.specs.Centre.{beginning, Centre}
use Rattle.rbc_spec.specs.Frame.{Frame}
use Rattle.rbc_spec.specs.Line.{Line}
use Rattle.rbc_spec.specs.Message.{TrackMessage}
use Rattle.rbc_spec.specs.Outcome.{Outcome}
use Rattle.serve_workers.specs.Carried.{Delivers}
use Rattle.serve_workers.specs.declared.end.SessionEnd.{SessionEnd}
use Rattle.serve_workers.specs.declared.end.SessionEnd.TheVariants.{Device, EndOfStream, Fault, Refused}
use Rattle.serve_workers.specs.declared.writing.reply.Reply.{Reply}
use Rattle.serve_workers.specs.Session.{Serves, Shows}
use Rattle.serve_workers.specs.Writing.Lane as lane
use Rattle.serve_workers.specs.Writing.Lane.{Call, Goes, let_out, submitted}
use Rattle.serve_workers.specs.Writing.Row.{SpellRow}

-- ## The works at a centre

-- A work commits events with a share of its centre. There are four. One reads a train's connection to its end. One
-- obeys the interlocking. One receives the frames of a link, from a first number on. One takes the events of a journal
-- again.
pub data Work : Type 0 where
  Reads : (read : List ℕ) (end : SessionEnd) → Work
  Obeys : (asked : List Event) → Work
  Receives : (from : ℕ) (known : ℕ → Option Frame) (first : ℕ) (frames : List Frame) → Work
  Resumes : (again : List Event) → Work

-- the interlocking may ask for it
abbrev pub IsAsked : Event → Type 0
IsAsked (Set s) = Unit {0}
IsAsked (Unset s) = Unit {0}
IsAsked event = ⊥

-- the events are committed at centre c, in order, each with the outcome of its step
abbrev pub CommitsEach : ℕ → ShareValue → ShareValue → List Event → Type 0
CommitsEach c old new [] = new ≡ old
CommitsEach c old new (event ∷ events) =
    (mid : ShareValue) × (outcome : Outcome) × CommitsAt c old mid event outcome × CommitsEach c mid new events

-- The work at centre c, with the share before it and after it. The premises are the clauses of `run_session`, and of
-- `Committer::commit` for one event after another. For a link they are the clause of `receive_frames` in the order of
-- the numbers (`frames_are_committed_in_their_order`). For a journal they are the clause of `resume`, centre by centre.
abbrev pub IsDone : ℕ → ShareValue → Work → ShareValue → Type 0
IsDone c old (Reads read end) new = Serves c old new read end
IsDone c old (Obeys asked) new = All IsAsked asked × CommitsEach c old new asked
IsDone c old (Receives from known first frames) new = Delivers known c from first old new frames
IsDone c old (Resumes again) new = CommitsEach c old new again

-- one after another
abbrev pub AreDone : ℕ → ShareValue → List Work → ShareValue → Type 0
AreDone c old [] new = new ≡ old
AreDone c old (work ∷ works) new = (mid : ShareValue) × IsDone c old work mid × AreDone c mid works new

-- a slot of a centre: the works that used it, in order, and its share after them
pub record Slot : Type 0 where
  pub works : List Work
  pub share : ShareValue

-- its share had no receipt before the first work
pub record IsSlot (slot : Slot) : Type 0 where
  pub done : AreDone slot.share.centre (record { centre = slot.share.centre; receipts = [] }) slot.works slot.share

-- ## The events that came in

-- After the last message that a session committed its bytes show the fault, or have no whole message. After a refusal
-- nothing is claimed of them.
abbrev pub LeavesNone : List ℕ → SessionEnd → Type 0
LeavesNone rest EndOfStream = IsRest rest
LeavesNone rest Device = IsRest rest
LeavesNone rest (Fault fault) = Shows rest fault
LeavesNone rest (Refused fault) = Unit {0}

-- the events that a work brings, in order: those of a session are the messages that its bytes spell
abbrev pub Brings : Work → List Event → Type 0
Brings (Reads read end) events =
    (messages : List TrainText) × (rest : List ℕ) × Spell read messages rest × LeavesNone rest end
    × (events ≡ map (λ m. Train m) messages)
Brings (Obeys asked) events = All IsAsked asked × (events ≡ asked)
Brings (Receives from known first frames) events = events ≡ map (λ f. Deliver from f) frames
Brings (Resumes again) events = events ≡ again

-- the events of several works, one after another
abbrev pub AllBring : List Work → List Event → Type 0
AllBring [] events = events ≡ []
AllBring (work ∷ works) events =
    (own : List Event) × (later : List Event) × (events ≡ own ++ later) × Brings work own × AllBring works later

-- The log of the slot's centre has the receipts of the slot, each at its place, in order. Their events are exactly
-- those that its works brought, in order.
pub record IsInLog (logs : List LogValue) (slot : Slot) : Type 0 where
  pub found : AreFound (slice_get logs slot.share.centre) slot.share.receipts
  pub brought : AllBring slot.works (map (λ r. r.event) slot.share.receipts)

-- a work at centre c brought the event
pub record CameIn (slots : List Slot) (c : ℕ) (event : Event) : Type 0 where
  pub slot : Slot
  pub there : Contains slots slot
  pub here : slot.share.centre ≡ c
  pub work : Work
  pub its : Contains slot.works work
  pub events : List Event
  pub brings : Brings work events
  pub among : Contains events event

-- each event of the log came in
pub record AllCameIn (slots : List Slot) (c : ℕ) (log : LogValue) : Type 0 where
  pub each : All (λ e. CameIn slots c e.event) log.entries

-- `taken`: all that the works brought is in the logs. `came_in`: the logs have nothing else. `safe`: the logs keep the
-- promise to the outside, by all their messages and by each part of these that arrives.
pub record IsServed (line : Line) (logs : List LogValue) (slots : List Slot) : Type 0 where
  pub taken : All (IsInLog logs) slots
  pub came_in : (c : ℕ) (log : LogValue) → slice_get logs c ≡ Some log → AllCameIn slots c log
  pub safe : AreSafe line (logs_by logs)

-- The logs are a family whose entries are the receipts of all slots, as `gather` answers.
abbrev pub ReadTheorem : Type 0
ReadTheorem = (line : Line) (logs : List LogValue) (slots : List Slot) → IsFamilyOf line logs
    → AreShared logs (map (λ slot. slot.share) slots) → All IsSlot slots → IsServed line logs slots

-- ## Bytes to a train

-- its message is among these
abbrev pub IsOf : List TrackMessage → Reply → Type 0
IsOf told reply = Contains told reply.message

-- the messages of a log to train t from this T_TRAIN on
abbrev pub told_from : ℕ → ℕ → List LogEntry → List TrackMessage
told_from first t log = drop (first - 1) (told_to t log)

-- the bytes spell a beginning of the messages, in order
pub record SpellBeginning (bytes : List ℕ) (messages : List TrackMessage) : Type 0 where
  pub written : List TrackMessage
  pub later : List TrackMessage
  pub begins : messages ≡ written ++ later
  pub spelled : SpellRow bytes written

-- The log of centre c replays. The lane of train t there has the first turn, and the early replies wait. This
-- connection serves the train before, between and after the calls. The bytes spell the released replies, in order.
abbrev pub WrittenTheorem : Type 0
WrittenTheorem = (line : Line) (c t : ℕ) (log : List LogEntry) (end : Centre) (first connection last : ℕ)
    (serving : Option ℕ) (early left : List Reply) (calls : List Call) (bytes : List ℕ)
    → Replays line c (beginning line c) log end
    → All (IsOf (told_to t log)) early → All (IsOf (told_to t log)) (submitted calls)
    → Goes calls first serving early last left → lane.Serves connection calls first serving
    → SpellRow bytes (map (λ reply. reply.message) (let_out calls))
    → SpellBeginning bytes (told_from first t log)
