-- Prompt schedules: trains and the interlocking go on, and each link delivers its next frame within k events. The
-- bounds within which a question between centres is answered. An announced handover waits for a train, and so does a
-- section that its home asks back: they have no bound here. A TakingOver and its Yield have only the bound of a frame.
use Rattle.std.specs.Prelude.{◌≡◌, ◌≢◌, ◌⊎◌, ℕ, ◌+◌, ◌*◌, ◌≤◌, ◌<◌, ◌==◌, ◌&&◌, Bool, true, false, List, [], ◌∷◌}
use Rattle.std.specs.Prelude.{length, None, Result, Ok, Err}
use Rattle.std.specs.List.{list_any}
use Rattle.rbc_spec.specs.Line.{Line, is_home}
use Rattle.rbc_spec.specs.Message.{TrackBody, InitiationOfSession, TerminationOfSession, TrainAccepted, TrainRejected}
use Rattle.rbc_spec.specs.Frame.{Frame}
use Rattle.rbc_spec.specs.Centre.{is_registrar_of}
use Rattle.rbc_spec.specs.Step.{Refusal, silence}
use Rattle.rbc_spec.specs.World.{World, Event, Bytes, Delivery, Answer, Answered, centre_of, way, world_step}
use Rattle.law_invariants.specs.NoUnasked.Asked.{Question, OfRight, OfRoute, answers, stands}
use Rattle.law_progress.specs.Fair.Schedule.{next_number, world_after}

-- ## Schedules

-- If a frame from a to b is on the way, the next frame of that link is delivered within k events. Any events may happen
-- between deliveries, for ever. A delivery may be refused.
pub record IsPrompt (line : Line) (schedule : ℕ → Event) (k : ℕ) : Type 0 where
  pub delivers : (n a b : ℕ) → way (world_after line schedule n) a b ≢ []
      → (m : ℕ) × (n ≤ m) × (m < n + k) × (schedule m ≡ Delivery a b (next_number (world_after line schedule m) a b))

-- the schedule has these events in their order, from position 0 on, one at each multiple of a number
pub record HasInOrder (others : ℕ → Event) (every : ℕ) (schedule : ℕ → Event) : Type 0 where
  pub each : (i : ℕ) → schedule (i * every) ≡ others i

-- After position n and before position m the delivery of the next frame from a to b is refused. A step clock is at its
-- end, or a link is full. A refused step of any other event is none of these.
pub record IsHeldUp (line : Line) (schedule : ℕ → Event) (n m a b : ℕ) : Type 0 where
  pub at : ℕ
  pub late : n ≤ at
  pub soon : at < m
  pub is_delivery : schedule at ≡ Delivery a b (next_number (world_after line schedule at) a b)
  pub why : Refusal
  pub refused : world_step line (world_after line schedule at) (schedule at) ≡ Err why

-- Of the frames on the way from a to b, the one at place i, counted from 0, is taken. The time is k events for it and
-- for each frame before it. Or a delivery from a to b is refused before that.
pub record IsTakenSoon (line : Line) (schedule : ℕ → Event) (k n a b i : ℕ) : Type 0 where
  pub at : ℕ
  pub late : n ≤ at
  pub soon : at ≤ n + k * (i + 1)
  pub ends : (((world_after line schedule at).at b).taken a ≡ ((world_after line schedule n).at b).taken a + i + 1)
      ⊎ IsHeldUp line schedule n at a b

-- ## Questions

-- the centre that answers the question: the registrar of the train, or the home of the first section
abbrev pub is_asked_of : Line → ℕ → Question → Bool
is_asked_of line d (OfRight t) = is_registrar_of line d t
is_asked_of line d (OfRoute t first) = is_home line d first

-- one frame, which answers the question
pub record PutsAnswer (x : Question) (frames : List Frame) : Type 0 where
  pub frame : Frame
  pub alone : frames ≡ frame ∷ []
  pub answers_it : answers x frame.body ≡ true

-- The events within which centre d answers a question of centre c, if each link delivers within k events. The
-- question waits for the frames before it on its way, and then its answer for those before it on its own. A step sends
-- at most three frames on a link.
abbrev pub answer_time : World → ℕ → ℕ → ℕ → ℕ
answer_time w k c d =
    let out = k * length (way w c d) in
    out + k * (length (way w d c) + 3 * out)

-- Within that time the question of c to d is pending no more. Or a delivery from c to d, or from d to c, is refused
-- before that.
pub record IsAnsweredSoon (line : Line) (schedule : ℕ → Event) (k n c d : ℕ) (x : Question) : Type 0 where
  pub at : ℕ
  pub late : n ≤ at
  pub soon : at ≤ n + answer_time (world_after line schedule n) k c d
  pub ends : (stands x ((world_after line schedule at).at c) ≡ false)
      ⊎ (IsHeldUp line schedule n at c d ⊎ IsHeldUp line schedule n at d c)

-- ## Starts of mission

-- message 41 or 40
abbrev pub is_start_answer : TrackBody → Bool
is_start_answer TrainAccepted = true
is_start_answer TrainRejected = true
is_start_answer body = false

-- the step answers a start of train t, by message 41 or 40
abbrev pub AnswersStart : ℕ → Result (Answer × World) Refusal → Type 0
AnswersStart t (Ok (Answered o, new)) =
    list_any (λ s. (s.nid_engine == t) && is_start_answer s.message.body) o.sayings ≡ true
AnswersStart t r = ⊥

-- a message of train t to centre c, which begins or ends a session and is not silent
abbrev pub IsSessionOf : Line → World → ℕ → ℕ → Event → Type 0
IsSessionOf line w c t (Bytes d (Ok m)) = (d ≡ c) × (m.nid_engine ≡ t) × (silence line d (w.at d) m ≡ None)
    × ((m.body ≡ InitiationOfSession) ⊎ (m.body ≡ TerminationOfSession))
IsSessionOf line w c t event = ⊥

-- After position n and before position m the start of train t that waits at centre c ends, in a step of c. The step
-- answers it, or its train begins or ends a session.
pub record IsStartEnded (line : Line) (schedule : ℕ → Event) (n m c t : ℕ) : Type 0 where
  pub at : ℕ
  pub late : n ≤ at
  pub soon : at < m
  pub here : centre_of (schedule at) ≡ c
  pub ends : AnswersStart t (world_step line (world_after line schedule at) (schedule at))
      ⊎ IsSessionOf line (world_after line schedule at) c t (schedule at)

-- Within the time of an answer to c from the registrar d (`answer_time`), the start of train t that waits at c ends so.
-- Or a delivery from c to d, or from d to c, is refused before that.
pub record IsStartAnswered (line : Line) (schedule : ℕ → Event) (k n c d t : ℕ) : Type 0 where
  pub at : ℕ
  pub late : n ≤ at
  pub soon : at ≤ n + answer_time (world_after line schedule n) k c d
  pub ends : IsStartEnded line schedule n at c t ⊎ (IsHeldUp line schedule n at c d ⊎ IsHeldUp line schedule n at d c)
