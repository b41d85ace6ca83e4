-- Centres and the one line centre side by side. At each event a piece of the one line centre meets the answer of the
-- centres. The state after it is the one that is read off the centres.
use Rattle.std.specs.List.{filter, filter_map, range_with_len}
use Rattle.std.specs.Prelude.{[], ◌∷◌, ◌≡◌, Err, length, List, map, None, Ok, Option, Result, Some, ℕ}
use Rattle.rbc_spec.specs.Centre.{Phase}
use Rattle.rbc_spec.specs.Line.{Line}
use Rattle.rbc_spec.specs.LineCentre.{line_beginning, LineMission, LineState, Mark}
use Rattle.rbc_spec.specs.Place.{Place}
use Rattle.rbc_spec.specs.ReadOff.{IsLineRun, read_off}
use Rattle.rbc_spec.specs.Run as run
use Rattle.rbc_spec.specs.Sections.{section_count}
use Rattle.rbc_spec.specs.Step.{Refusal}
use Rattle.rbc_spec.specs.Theorems.{ForcedRun, IsOneCentreLine}
use Rattle.rbc_spec.specs.World.{Answer, Answered, Event, Fault, new_world, NoCentre, NotSent, World, world_run}
use Rattle.rbc_spec.specs.World.{world_step}
use Rattle.test_scenes.specs.Moves.{BadBytes, Move, NeverSent, Nowhere, play, Played, Shown, Speaks, spoken_in}
use Rattle.test_scenes.specs.Scene.{Happens, Scene}

-- ## A state on its line

-- a state's record of a train at one centre
pub record Side : Type 0 where
  pub phase : Phase
  pub heard : Option ℕ
  pub said : ℕ
  pub wait : Option Place

-- a state's record of a train
pub record OfTrain : Type 0 where
  pub mission : Option LineMission
  pub sides : List Side

-- the marks of the sections in order, the sections that are wished back, and the record of each train
pub record Sheet : Type 0 where
  pub marks : List Mark
  pub wished : List ℕ
  pub trains : List OfTrain

abbrev pub side : LineState → (t c : ℕ) → Side
side v t c = record { phase = v.phase t c; heard = v.heard t c; said = v.said t c; wait = v.wait t c }

abbrev pub of_train : Line → LineState → ℕ → OfTrain
of_train line v t = record { mission = v.mission t; sides = map (side v t) (range_with_len 0 (length line.centres)) }

abbrev pub sheet : Line → LineState → Sheet
sheet line v = record {
  marks = map v.mark (range_with_len 0 (section_count line));
  wished = filter v.wish (range_with_len 0 (section_count line));
  trains = map (λ p. of_train line v p.nid_engine) line.trains;
}

-- ## Side by side

-- The centres' world and the line centre's state go on side by side. The centres answer each event, and the line centre
-- meets the answer by a piece. Its state is then the one that is read off the centres.
abbrev pub GoesWith : Line → World → LineState → List Move → Type 0
GoesWith line w v [] = Unit {0}
GoesWith line w v (move ∷ moves) =
    (answer : Answer) × (after : World) × (new : LineState)
    × (world_step line w move.event ≡ Ok (answer, after))
    × run.Goes line v move.event answer new
    × (sheet line (read_off line after) ≡ sheet line new)
    × GoesWith line after new moves

abbrev pub events_of : List Move → List Event
events_of moves = map (λ move. move.event) moves

-- the events of a scene
abbrev pub event_of : Scene → Option Event
event_of (Happens event) = Some event
event_of other = None

-- The moves are of the scene's events. From the initial state on, a run of the one line centre by these moves meets the
-- answers of the whole world. Its last state is the one that is read off.
pub record IsMetByRun (line : Line) (scene : List Scene) (moves : List Move) : Type 0 where
  pub answers : List Answer
  pub after : World
  pub last : LineState
  pub of_scene : events_of moves ≡ filter_map event_of scene
  pub by_events : GoesWith line (new_world line) line_beginning moves
  pub ran : world_run line (new_world line) (events_of moves) ≡ Ok (answers, after)
  pub is_run : run.Run line line_beginning (events_of moves) answers last
  pub read : sheet line (read_off line after) ≡ sheet line last

-- the same by a run that leaves the line centre no choice, on a one-centre line
pub record IsMetByForcedRun (line : Line) (c : ℕ) (scene : List Scene) : Type 0 where
  pub answers : List Answer
  pub after : World
  pub last : LineState
  pub one_centre : IsOneCentreLine line c
  pub ran : world_run line (new_world line) (filter_map event_of scene) ≡ Ok (answers, after)
  pub is_run : ForcedRun line line_beginning (filter_map event_of scene) answers last
  pub read : sheet line (read_off line after) ≡ sheet line last

-- the answers of the centres to a scene, and the world after it, are as the main theorem states
pub record IsLineRunOf (line : Line) (scene : List Scene) : Type 0 where
  pub answers : List Answer
  pub after : World
  pub ran : world_run line (new_world line) (filter_map event_of scene) ≡ Ok (answers, after)
  pub is_line_run : IsLineRun line (filter_map event_of scene) answers after

-- ## The computed views of both

-- The answer that is shown at an event, with the line after it. Or the step is refused, or the rules of the line centre
-- do not allow the move.
pub data Seen : Type 0 where
  Shows : (shown : Shown) (line : Sheet) → Seen
  Refused : Seen
  NotAllowed : Seen

abbrev pub shown_by : Answer → Shown
shown_by (Answered outcome) = Speaks (spoken_in outcome)
shown_by NoCentre = Nowhere
shown_by NotSent = NeverSent
shown_by (Fault number) = BadBytes number

abbrev pub seen_after : Line → Result (Answer × World) Refusal → (World → List Seen) → List Seen
seen_after line (Ok (answer, after)) others = Shows (shown_by answer) (sheet line (read_off line after)) ∷ others after
seen_after line (Err why) others = Refused ∷ []

-- the views of the centres
unfoldable pub centres_show : Line → World → List Move → List Seen
centres_show line w [] = []
centres_show line w (move ∷ moves) =
    seen_after line (world_step line w move.event) (λ after. centres_show line after moves)

abbrev pub seen_of_line : Line → Option Played → (LineState → List Seen) → List Seen
seen_of_line line (Some p) others = Shows p.shown (sheet line p.state) ∷ others p.state
seen_of_line line None others = NotAllowed ∷ []

-- the views of the one line centre
unfoldable pub line_shows : Line → LineState → List Move → List Seen
line_shows line v [] = []
line_shows line v (move ∷ moves) = seen_of_line line (play line v move) (λ new. line_shows line new moves)
