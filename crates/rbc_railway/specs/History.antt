-- The moments of the closed loop that led to the parts of a railway.
use Rattle.std.specs.Prelude.{◌≡◌, ℕ, ◌==◌, Bool, true, false, ◌||◌, List, [], ◌∷◌, ◌++◌, map, Some, Ok}
use Rattle.std.specs.Prelude.{slice_get, Contains, None, Option, option_and_then, option_map, pos, if◌then◌else◌, ℤ}
use Rattle.law_trains.specs.Trains.{AllMay, all_after, answers_of, at_first, events_of, IsNew, Loop, may_say, Moment}
use Rattle.law_trains.specs.Trains.{Train}
use Rattle.rbc_railway.specs.declared.answer.CentreAnswer.{CentreAnswer}
use Rattle.rbc_railway.specs.declared.train.RunningTrain.{RunningTrain}
use Rattle.rbc_spec.specs.Line.{is_centre, Line}
use Rattle.rbc_spec.specs.Message.{TrainMessage}
use Rattle.rbc_spec.specs.Outcome.{Saying}
use Rattle.rbc_spec.specs.World.{Answer, Answered, Bytes, centre_of, Event, new_world, World, world_run, world_step}
use Rattle.rbc_world.specs.declared.event.WorldEvent.{WorldEvent}
use Rattle.rbc_world.specs.Views.{answer_of, event_of}
use Rattle.train_unit.specs.Units.{train_of}

-- ## Trains

abbrev pub name_of : RunningTrain → ℕ
name_of x = x.unit.nid_engine

-- the train of the closed loop, with the fields that its unit keeps, and its true ends
abbrev pub train_at : RunningTrain → Train
train_at x = train_of x.unit x.ends

-- the train with its ends there
abbrev pub ran_to : ℕ → ℤ → RunningTrain → RunningTrain
ran_to front rear x = record { unit = x.unit; ends = record { track = x.ends.track; front = front; rear = rear } }

-- the rules allow the train to send the message to centre c
abbrev pub MaySend : Line → ℕ → TrainMessage → RunningTrain → Type 0
MaySend line c m x = (m.nid_engine ≡ name_of x) × (may_say line c m (train_at x) ≡ true)

abbrev pub names_of : List RunningTrain → List ℕ
names_of trains = map name_of trains

-- one of the names is this
abbrev pub is_named : List ℕ → ℕ → Bool
is_named [] t = false
is_named (n ∷ ns) t = (n == t) || is_named ns t

-- the trains of the railway are those that obey
abbrev pub obeys : List RunningTrain → ℕ → Bool
obeys trains = is_named (names_of trains)

-- no two trains have one name
abbrev pub HaveOwnNames : List RunningTrain → Type 0
HaveOwnNames trains = (i j : ℕ) (x y : RunningTrain) → slice_get trains i ≡ Some x → slice_get trains j ≡ Some y
    → name_of x ≡ name_of y → i ≡ j

-- no train has done anything yet
abbrev pub AreNew : List RunningTrain → Type 0
AreNew trains = (i : ℕ) (x : RunningTrain) → slice_get trains i ≡ Some x → IsNew (train_at x)

-- a train without a name in the railway, anywhere
abbrev pub nobody : Train
nobody = record {
  track = 0;
  front = 1;
  rear = pos 0;
  clock = 0;
  has_started = false;
  end = None;
  follows = None;
  gave_back = 0;
  asked = λ c. None;
}

-- the trains by their names, before the first moment
abbrev pub first_of : List RunningTrain → ℕ → Train
first_of [] t = nobody
first_of (x ∷ xs) t = if name_of x == t then train_at x else first_of xs t

-- ## Messages on the way

-- a message in the name of a train that obeys was sent by it
abbrev pub WasSent : (ℕ → Bool) → List (ℕ × TrainMessage) → Event → Type 0
WasSent obeys said (Bytes c (Ok m)) = obeys m.nid_engine ≡ true → Contains said (c, m)
WasSent obeys said event = Unit {0}

-- bytes that are in the name of no train that obeys, or another event
abbrev pub IsFree : (ℕ → Bool) → Event → Type 0
IsFree obeys (Bytes c (Ok m)) = obeys m.nid_engine ≡ false
IsFree obeys event = Unit {0}

-- the messages to trains in an answer
abbrev pub sayings_in : Answer → List Saying
sayings_in (Answered o) = o.sayings
sayings_in answer = []

abbrev pub by_centre : ℕ → Saying → ℕ × Saying
by_centre c p = (c, p)

abbrev pub saying_at : ℕ → CentreAnswer → Option (ℕ × Saying)
saying_at j a = option_map (by_centre a.centre) (slice_get (sayings_in (answer_of a.answer)) j)

-- message j of answer n, and the centre that sent it
abbrev pub told_at : List CentreAnswer → ℕ → ℕ → Option (ℕ × Saying)
told_at told n j = option_and_then (saying_at j) (slice_get told n)

-- ## Moments

abbrev pub loop_after : Line → (ℕ → Train) → List Moment → Loop
loop_after line first moments = all_after line moments (at_first first)

-- the answers are those of centres of the line
abbrev pub AreOfCentres : Line → List CentreAnswer → Type 0
AreOfCentres line told = (i : ℕ) (a : CentreAnswer) → slice_get told i ≡ Some a → is_centre line a.centre ≡ true

-- the centre sent the messages in the answer
abbrev pub IsTold : Loop → CentreAnswer → Type 0
IsTold k a = (p : Saying) → Contains (sayings_in (answer_of a.answer)) p → Contains k.told (a.centre, p)

-- The centres took the event, and their answer was put to those before.
pub record IsTaken (line : Line) (w new : World) (told told_after : List CentreAnswer) (event : Event) : Type 0 where
  pub answer : CentreAnswer
  pub kept : told_after ≡ told ++ answer ∷ []
  pub of_centre : answer.centre ≡ centre_of event
  pub here : is_centre line answer.centre ≡ true
  pub step : world_step line w event ≡ Ok (answer_of answer.answer, new)

-- These moments lead from the trains in their initial state and the initial state of the line to this world and these
-- trains. The bytes in `sent` were sent by them, and the messages in `told` by centres.
pub record Leads (line : Line) (w : World) (trains : List RunningTrain) (sent : List WorldEvent)
    (told : List CentreAnswer) (first : ℕ → Train) (moments : List Moment) : Type 0 where
  pub new : (t : ℕ) → IsNew (first t)
  pub may : AllMay line (obeys trains) (at_first first) moments
  pub run : world_run line (new_world line) (events_of moments) ≡ Ok (answers_of moments, w)
  pub train : (i : ℕ) (x : RunningTrain) → slice_get trains i ≡ Some x
      → (loop_after line first moments).train (name_of x) ≡ train_at x
  pub by_trains : (i : ℕ) (e : WorldEvent) → slice_get sent i ≡ Some e
      → WasSent (obeys trains) (loop_after line first moments).said (event_of e)
  pub by_centres : (i : ℕ) (a : CentreAnswer) → slice_get told i ≡ Some a → IsTold (loop_after line first moments) a

-- some list of moments led here
pub record WasLed (line : Line) (w : World) (trains : List RunningTrain) (sent : List WorldEvent)
    (told : List CentreAnswer) : Type 0 where
  pub first : ℕ → Train
  pub moments : List Moment
  pub leads : Leads line w trains sent told first moments
