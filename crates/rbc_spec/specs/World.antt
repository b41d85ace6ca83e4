-- The centres of a line side by side, and the events that happen to them.
use Rattle.std.specs.List.{list_any}
use Rattle.std.specs.Option.{option_map_or}
use Rattle.std.specs.Prelude.{[], if◌then◌else◌, ◌++◌, ◌-◌, ◌==◌, ◌∷◌, ◌≡◌, drop, Err, is_none, List, None, Ok, Option}
use Rattle.std.specs.Prelude.{Result, slice_get, ℕ}
use Rattle.rbc_spec.specs.Centre.{beginning, Centre}
use Rattle.rbc_spec.specs.Frame.{Frame}
use Rattle.rbc_spec.specs.Line.{is_centre, Line, train_number}
use Rattle.rbc_spec.specs.Maps.{put}
use Rattle.rbc_spec.specs.Message.{TrainMessage}
use Rattle.rbc_spec.specs.Outcome.{Outcome}
use Rattle.rbc_spec.specs.Step as centre
use Rattle.rbc_spec.specs.Step.{Refusal, step}

-- An event of the line. `Bytes`: bytes from a train arrive at centre c. `read` is the message that they spell, or the
-- number of their fault. `Set` and `Unset`: the interlocking sets or unsets section s at centre c. `Delivery`: the
-- frame of this number from centre `from` is delivered to centre `to`. A frame that was ever sent may be delivered, at
-- any time and more than once.
-- Rules: WO-2
pub data Event : Type 0 where
  Bytes : (c : ℕ) → (read : Result TrainMessage ℕ) → Event
  Set : (c s : ℕ) → Event
  Unset : (c s : ℕ) → Event
  Delivery : (from to number : ℕ) → Event

-- the centre at which an event happens
abbrev pub centre_of : Event → ℕ
centre_of (Bytes c read) = c
centre_of (Set c s) = c
centre_of (Unset c s) = c
centre_of (Delivery from to number) = to

-- The answer to an event: the outcome of a centre's step, or one of three answers that change nothing. `NoCentre`: the
-- centre is not of the line. `NotSent`: no frame of that number was sent. `Fault`: the bytes have the fault of this
-- number.
pub data Answer : Type 0 where
  Answered : (outcome : Outcome) → Answer
  NoCentre : Answer
  NotSent : Answer
  Fault : (number : ℕ) → Answer

-- the state of each centre, and the trains of the line that messages have named, in the order of first mention
-- Rules: WO-1
pub record World : Type 0 where
  pub at : ℕ → Centre
  pub trains : List ℕ

unfoldable pub new_world : Line → World
new_world line = record { at = beginning line; trains = [] }

-- the frame of this number that a sent to b; numbers start from 1
-- Rules: WO-3
abbrev pub frame_sent : World → ℕ → ℕ → ℕ → Option Frame
frame_sent w a b number = if number == 0 then None else slice_get ((w.at a).sent b) (number - 1)

-- the frames on the way from a to b: those sent after the last one that b has taken
abbrev pub way : World → ℕ → ℕ → List Frame
way w a b = drop ((w.at b).taken a) ((w.at a).sent b)

-- the list of named trains after one more mention; an engine that is not of the line is not listed
-- Rules: WO-1
abbrev pub mention : Line → ℕ → List ℕ → List ℕ
mention line t trains =
    if is_none (train_number line t) then trains
    else (if list_any (λ u. t == u) trains then trains else trains ++ t ∷ [])

-- the outcome of a step of centre c, put into the world
abbrev pub stepped : World → ℕ → List ℕ → Result (Outcome × Centre) Refusal → Result (Answer × World) Refusal
stepped w c trains (Ok (outcome, centre)) = Ok (Answered outcome, record { at = put w.at c centre; trains = trains })
stepped w c trains (Err why) = Err why

-- an event at centre c, or `NoCentre` if c is not of the line
abbrev pub at_centre : Line → World → ℕ → Result (Answer × World) Refusal → Result (Answer × World) Refusal
at_centre line w c done = if is_centre line c then done else Ok (NoCentre, w)

abbrev pub takes : Line → World → ℕ → List ℕ → centre.Event → Result (Answer × World) Refusal
takes line w c trains event = stepped w c trains (step line c event (w.at c))

-- bytes at a centre of the line
abbrev pub reads : Line → World → ℕ → Result TrainMessage ℕ → Result (Answer × World) Refusal
reads line w c (Ok m) = takes line w c (mention line m.nid_engine w.trains) (centre.Train m)
reads line w c (Err number) = Ok (Fault number, w)

-- the effect of one event
-- Rules: WO-4
unfoldable pub world_step : Line → World → Event → Result (Answer × World) Refusal
world_step line w (Bytes c read) = at_centre line w c (reads line w c read)
world_step line w (Set c s) = at_centre line w c (takes line w c w.trains (centre.Set s))
world_step line w (Unset c s) = at_centre line w c (takes line w c w.trains (centre.Unset s))
world_step line w (Delivery a b number) =
    option_map_or (λ f. takes line w b w.trains (centre.Deliver a f)) (frame_sent w a b number) (Ok (NotSent, w))

infixl 10 ◌>>=◌
abbrev pub ◌>>=◌ : {A B : Type 0} → Result A Refusal → (A → Result B Refusal) → Result B Refusal
(Ok x) >>= next = next x
(Err why) >>= next = Err why

-- the answers to the events in order, and the world after them; or the first refusal
-- Rules: WO-5
unfoldable pub world_run : Line → World → List Event → Result (List Answer × World) Refusal
world_run line w [] = Ok ([], w)
world_run line w (event ∷ events) = do
  first ← world_step line w event
  others ← world_run line first.1 events
  Ok (first.0 ∷ others.0, others.1)

-- the list of named trains after an event: only a message at a centre of the line adds to it
abbrev pub named : Line → Event → List ℕ → List ℕ
named line (Bytes c (Ok m)) trains = if is_centre line c then mention line m.nid_engine trains else trains
named line event trains = trains

abbrev pub all_named : Line → List Event → List ℕ → List ℕ
all_named line [] trains = trains
all_named line (event ∷ events) trains = all_named line events (named line event trains)

-- the events before some position are answered, and the step of the event at that position is refused
pub record IsRefused (line : Line) (w : World) (events : List Event) (why : Refusal) : Type 0 where
  pub front : List Event
  pub event : Event
  pub rest : List Event
  pub answers : List Answer
  pub reached : World
  pub cut : events ≡ front ++ event ∷ rest
  pub answered : world_run line w front ≡ Ok (answers, reached)
  pub refused : world_step line reached event ≡ Err why
