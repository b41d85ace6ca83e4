-- The contract of a world's step as a relation of the visible values, and the bytes of the frames and messages of an
-- outcome.
use Rattle.std.specs.Prelude.{◌≡◌, ℕ, List, [], ◌∷◌, Result, Ok, Err, OnErr}
use Rattle.rbc_spec.specs.Line.{Line}
use Rattle.rbc_spec.specs.Frame.{Frame}
use Rattle.rbc_spec.specs.Outcome.{Outcome, Saying}
use Rattle.rbc_spec.specs.World as spec
use Rattle.rbc_spec.specs.World.{World, Event, world_step}
use Rattle.rbc_msgs.specs.Layout.{IsBytes}
use Rattle.rbc_msgs.specs.TrackSpelling.{SpellsTrack}
use Rattle.rbc_linkmsg.specs.Spelling.{Spells}
use Rattle.rbc_world.specs.rbc_centre.declared.fault.StepFault.{StepFault}
use Rattle.rbc_world.specs.Answers.{Gives}
use Rattle.rbc_world.specs.Views.{answer_of}
use Rattle.rbc_world.specs.declared.event.Answer.{Answer}

-- ## Steps

-- the visible part of a step's result
abbrev pub seen : Result Answer StepFault → Result spec.Answer StepFault
seen (Ok answer) = Ok (answer_of answer)
seen (Err fault) = Err fault

-- The clauses `line`, `exact` and `err` of World::step, as a relation. Its values are the line and world before the
-- step, the event, the result, and the line and world after it. The result and the new world are those of the
-- definition. If memory runs out, the clauses state no result.
pub record IsStep (line : Line) (w : World) (event : Event) (result : Result Answer StepFault) (left : Line)
    (new : World) : Type 0 where
  pub same_line : left ≡ line
  pub exact : Gives (λ a. (answer_of a, new)) result (world_step line w event)
  pub err : OnErr result (new ≡ w)

-- such steps in order, each with its result, lead from w to new
abbrev pub AreSteps : Line → World → List Event → List (Result Answer StepFault) → World → Type 0
AreSteps line w [] [] new = new ≡ w
AreSteps line w (event ∷ events) (result ∷ results) new =
    (mid : World) × IsStep line w event result line mid × AreSteps line mid events results new
AreSteps line w events results new = ⊥

-- ## Events that were answered

-- The events that were answered, in order. Those that were refused are left out, whether memory ran out, a link is full
-- or a clock is at its end.
abbrev pub answered : List Event → List (Result Answer StepFault) → List Event
answered (event ∷ events) (Ok answer ∷ results) = event ∷ answered events results
answered (event ∷ events) (Err fault ∷ results) = answered events results
answered events results = []

-- the visible parts of their answers, in order
abbrev pub answers_of : List (Result Answer StepFault) → List spec.Answer
answers_of [] = []
answers_of (Ok answer ∷ results) = answer_of answer ∷ answers_of results
answers_of (Err fault ∷ results) = answers_of results

-- ## Bytes

-- the messages to trains as bytes, each after its NID_ENGINE, in order
abbrev pub AreMessagesWritten : List Saying → List (ℕ × List ℕ) → Type 0
AreMessagesWritten [] [] = Unit {0}
AreMessagesWritten (s ∷ sayings) (m ∷ messages) =
    (m.0 ≡ s.nid_engine) × IsBytes m.1 × SpellsTrack m.1 s.message × AreMessagesWritten sayings messages
AreMessagesWritten sayings messages = ⊥

-- frames as bytes, in order
abbrev pub AreFramesWritten : List Frame → List (List ℕ) → Type 0
AreFramesWritten [] [] = Unit {0}
AreFramesWritten (f ∷ frames) (bytes ∷ others) = Spells bytes f × AreFramesWritten frames others
AreFramesWritten frames others = ⊥

-- the messages of an outcome, and its frames to each centre, are written as these bytes
pub record IsWrittenAs (o : Outcome) (messages : List (ℕ × List ℕ)) (frames : ℕ → List (List ℕ)) : Type 0 where
  pub to_trains : AreMessagesWritten o.sayings messages
  pub to_centres : (d : ℕ) → AreFramesWritten (o.frames d) (frames d)
