-- The claims about the centres of a line: the main theorem, and the theorem of a line with one centre.
use Rattle.std.specs.Prelude.{◌≡◌, ℕ, List, [], ◌∷◌, true, Option, Some, None, Ok}
use Rattle.std.specs.List.{All}
use Rattle.rbc_spec.specs.Line.{Line, IsLine}
use Rattle.rbc_spec.specs.Place.{Place, fit_place}
use Rattle.rbc_spec.specs.Message.{TrainMessage, TrainBody, StartOfMission}
use Rattle.rbc_spec.specs.Outcome.{Outcome, Reason}
use Rattle.rbc_spec.specs.Centre.{is_registrar_of}
use Rattle.rbc_spec.specs.LineCentre.{LineState, hears, line_beginning, Said}
use Rattle.rbc_spec.specs.OwnSteps.{Accepts, may_start, begins}
use Rattle.rbc_spec.specs.Quiet.{Quiet, Propose, Proposes}
use Rattle.rbc_spec.specs.World.{World, Event, Bytes, Unset, Answer, Answered, new_world, world_step, world_run}
use Rattle.rbc_spec.specs.Run.{Piece, Goes, silence}
use Rattle.rbc_spec.specs.ReadOff.{StandsFor, IsLineRun, read_off}
use Rattle.rbc_spec.specs.Promises.{KeepsPromises, IsSound}

-- ## The whole line

-- The main theorem, for every line and every list of events: the answers and the last world are a run of the one line
-- centre.
-- Rules: CL-1
abbrev pub WholeLineTheorem : Type 0
WholeLineTheorem = (line : Line) (events : List Event) (answers : List Answer) (w : World)
    → IsLine line → world_run line (new_world line) events ≡ Ok (answers, w) → IsLineRun line events answers w

-- For every list of events, and for the next event that is answered: the one line centre may give the same answer. It
-- does so between the two states that are read off. The event keeps its promises, and the new world is sound. A refused
-- event changes nothing, so this holds after refused events too.
-- Rules: CL-6
abbrev pub EachEventTheorem : Type 0
EachEventTheorem =
    (line : Line) (w new : World) (events : List Event) (answers : List Answer) (event : Event) (answer : Answer)
    → IsLine line → world_run line (new_world line) events ≡ Ok (answers, w)
    → world_step line w event ≡ Ok (answer, new)
    → Goes line (read_off line w) event answer (read_off line new) × KeepsPromises line w event answer new
    × IsSound line new

-- ## A line with one centre

-- c is the home of all sections, and the registrar of all trains
-- Rules: CL-7
pub record IsOneCentreLine (line : Line) (c : ℕ) : Type 0 where
  pub homes : All (λ p. p.home ≡ c) line.sections
  pub registrars : All (λ p. p.registrar ≡ c) line.trains

-- a start at the registrar is accepted if the train has no mission and the sections are open
-- Rules: CL-7
abbrev pub IsStartAccepted : Line → LineState → ℕ → TrainMessage → TrainBody → Said → LineState → Type 0
IsStartAccepted line v c m (StartOfMission is_valid position) said new =
    (place : Place) → fit_place line is_valid position ≡ Some place → may_start line v c place ≡ true
    → is_registrar_of line c m.nid_engine ≡ true
    → v.mission m.nid_engine ≡ None → Accepts m.nid_engine c v (begins line m.nid_engine c place v) said new
IsStartAccepted line v c m body said new = Unit {0}

-- The own step of a message leaves no choice. It is silent if and only if a reason of silence holds, also for a report
-- of a train that is not supervised. A start is accepted whenever it may be.
-- Rules: CL-7
pub record ForcedMessageStep (line : Line) (v : LineState) (c : ℕ) (m : TrainMessage) (said : Said) (new : LineState)
    (why : Option Reason) : Type 0 where
  pub silent : why ≡ silence line v c m
  pub starts : why ≡ None → IsStartAccepted line (hears c m v) c m m.body said new

-- message 9 may be sent to the train for this section
abbrev pub MayPropose : Line → LineState → ℕ → ℕ → ℕ → Type 0
MayPropose line v t c s = (said : Said) × (new : LineState) × Proposes line v t c s said new

-- after an unset, message 9 is sent if and only if it may be; it is the only quiet step
-- Rules: CL-7
pub data Asks (line : Line) (v : LineState) (c s : ℕ) : List Quiet → Type 0 where
  asked : (t : ℕ) → MayPropose line v t c s → Asks line v c s (Propose t c s ∷ [])
  not_asked : ((t : ℕ) → MayPropose line v t c s → ⊥) → Asks line v c s []

-- the quiet steps after the own step of an event: message 9 if an unset asks for it, and no other
-- Rules: CL-7
abbrev pub ForcedQuietSteps : Line → LineState → Event → List Quiet → Type 0
ForcedQuietSteps line mid (Unset c s) quiets = Asks line mid c s quiets
ForcedQuietSteps line mid event quiets = quiets ≡ []

abbrev pub ForcedOwnStep : Line → LineState → Event → Said → LineState → Option Reason → Type 0
ForcedOwnStep line v (Bytes c (Ok m)) said new why = ForcedMessageStep line v c m said new why
ForcedOwnStep line v event said new why = Unit {0}

-- a piece without a choice
pub record ForcedPiece (line : Line) (v : LineState) (event : Event) (outcome : Outcome)
    (new : LineState) : Type 0 where
  pub piece : Piece line v event outcome new
  pub own_step : ForcedOwnStep line v event piece.own piece.mid outcome.silence
  pub quiet_steps : ForcedQuietSteps line piece.mid event piece.quiets

abbrev pub GoesForced : Line → LineState → Event → Answer → LineState → Type 0
GoesForced line v event (Answered outcome) new = ForcedPiece line v event outcome new
GoesForced line v event answer new = Goes line v event answer new

-- the answers to the events lead from state v to state `new` without a choice
-- Rules: CL-7
abbrev pub ForcedRun : Line → LineState → List Event → List Answer → LineState → Type 0
ForcedRun line v [] [] new = new ≡ v
ForcedRun line v (event ∷ events) (answer ∷ answers) new =
    (mid : LineState) × GoesForced line v event answer mid × ForcedRun line mid events answers new
ForcedRun line v events answers new = ⊥

-- the theorem for a list of events and the answers to them
pub record IsOneCentreRun (line : Line) (events : List Event) (answers : List Answer) (w : World) : Type 0 where
  pub last : LineState
  pub is_run : ForcedRun line line_beginning events answers last
  pub stands : StandsFor line w last

-- If one centre has all sections and is the registrar of all trains, the run leaves no choice.
-- Rules: CL-7
abbrev pub OneCentreTheorem : Type 0
OneCentreTheorem = (line : Line) (c : ℕ) (events : List Event) (answers : List Answer) (w : World)
    → IsLine line → IsOneCentreLine line c → world_run line (new_world line) events ≡ Ok (answers, w)
    → IsOneCentreRun line events answers w
