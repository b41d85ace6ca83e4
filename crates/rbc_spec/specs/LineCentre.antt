-- The one line centre: the state that a single centre for the whole line would keep. It has no borders, no frames and
-- no second book. The main theorem (rbc_world) is that the centres together act as the one line centre may.
use Rattle.std.specs.List.{filter, list_any, range_with_len}
use Rattle.std.specs.Prelude.{[], if◌then◌else◌, ◌&&◌, ◌+◌, ◌==◌, ◌≡◌, Bool, false, length, List, map, None, not}
use Rattle.std.specs.Prelude.{Option, option_map, Some, true, ℕ}
use Rattle.rbc_spec.specs.Centre.{Closed, Phase, Proposal}
use Rattle.rbc_spec.specs.Line.{is_home, Line}
use Rattle.rbc_spec.specs.Maps.{has, put, put_pair}
use Rattle.rbc_spec.specs.Message.{TrackBody, TrainMessage}
use Rattle.rbc_spec.specs.Outcome.{Saying, Told, Word}
use Rattle.rbc_spec.specs.Place.{covered, Place}
use Rattle.rbc_spec.specs.SectionRuns.{SectionRun, within}
use Rattle.rbc_spec.specs.Sections.{section_count}

-- The mark of a section. `Kept`: it is in use for a train, but not in its movement authority. `Given`: it is in the
-- train's movement authority.
pub data Mark : Type 0 where
  Shut : Mark
  Open : Mark
  Kept : (t : ℕ) → Mark
  Given : (t : ℕ) → Mark

-- The supervisor of a mission: a centre, or nobody while the supervision is handed over. In that case the stamp is the
-- last T_TRAIN that the handing-over centre received.
pub data Supervisor : Type 0 where
  At : (c : ℕ) → Supervisor
  Parted : (stamp : ℕ) → Supervisor

-- The mission of a train: its last place, whether its train data are known, whether it is ended, its pending request to
-- shorten, its supervisor. Its hand is the set of sections that are given to the train.
pub record LineMission : Type 0 where
  pub place : Place
  pub has_data : Bool
  pub is_ended : Bool
  pub proposal : Option Proposal
  pub supervisor : Supervisor

-- The state of the line. Each section has a mark, and a wish if the interlocking wishes it back. Each train has at most
-- one mission. For each train and centre it has the phase of the session, the last T_TRAIN received and the number of
-- messages sent. It also has the place of a waiting start of mission.
-- Rules: LC-1
pub record LineState : Type 0 where
  pub mark : ℕ → Mark
  pub wish : ℕ → Bool
  pub phase : ℕ → ℕ → Phase
  pub heard : ℕ → ℕ → Option ℕ
  pub said : ℕ → ℕ → ℕ
  pub wait : ℕ → ℕ → Option Place
  pub mission : ℕ → Option LineMission

-- the initial state: each section is shut, and no train is known
unfoldable pub line_beginning : LineState
line_beginning = record {
  mark = λ s. Shut;
  wish = λ s. false;
  phase = λ t c. Closed;
  heard = λ t c. None;
  said = λ t c. 0;
  wait = λ t c. None;
  mission = λ t. None;
}

-- ## Tests of a state

abbrev pub is_given_to : ℕ → Mark → Bool
is_given_to t (Given u) = u == t
is_given_to t m = false

abbrev pub is_kept_for : ℕ → Mark → Bool
is_kept_for t (Kept u) = u == t
is_kept_for t m = false

abbrev pub is_mark_open : Mark → Bool
is_mark_open Open = true
is_mark_open m = false

-- the hand of a train is a run of consecutive sections: exactly those that are given to the train
-- Rules: LC-2
pub record IsHand (v : LineState) (t : ℕ) (hand : SectionRun) : Type 0 where
  pub each : (s : ℕ) → is_given_to t (v.mark s) ≡ within hand s

-- centre c is the supervisor
abbrev pub is_at : ℕ → Supervisor → Bool
is_at c (At d) = d == c
is_at c (Parted stamp) = false

abbrev pub supervises : LineState → ℕ → ℕ → Bool
supervises v c t = has (λ m. is_at c m.supervisor) (v.mission t)

-- the section is one of a start of mission that waits at the centre
abbrev pub is_waiting_at : Line → LineState → ℕ → ℕ → ℕ → Bool
is_waiting_at line v t c s = has (λ place. within (covered line place) s) (v.wait t c)

-- a start of mission of the train waits for the section at some centre
abbrev pub is_waiting : Line → LineState → ℕ → ℕ → Bool
is_waiting line v t s = list_any (λ c. is_waiting_at line v t c s) (range_with_len 0 (length line.centres))

-- ## Changes

-- Frees sections: each becomes open. If it was wished back, it becomes shut instead, its wish ends, and the
-- interlocking gets a reply `Told`.
-- Rules: LC-11
abbrev pub free : (ℕ → Bool) → LineState → LineState
free is_freed v = record v {
  mark = λ s. if is_freed s then (if v.wish s then Shut else Open) else v.mark s;
  wish = λ s. not (is_freed s) && v.wish s;
}

-- the replies `Told` for freed sections, in the order of sections
-- Rules: LC-11
abbrev pub told : Line → (ℕ → Bool) → LineState → List Word
told line is_freed v = map (λ s. Told s) (filter (λ s. is_freed s && v.wish s) (range_with_len 0 (section_count line)))

-- sections get this mark
abbrev pub mark_all : (ℕ → Bool) → Mark → LineState → LineState
mark_all test mark v = record v { mark = λ s. if test s then mark else v.mark s }

-- sections stop being given to train t: those of home c are freed, the others are kept for t
-- Rules: LC-9
abbrev pub release : Line → ℕ → ℕ → (ℕ → Bool) → LineState → LineState
release line c t is_released v =
    free (λ s. is_released s && is_home line c s) (mark_all (λ s. is_released s && not (is_home line c s)) (Kept t) v)

abbrev pub set_mission : ℕ → Option LineMission → LineState → LineState
set_mission t mission v = record v { mission = put v.mission t mission }

abbrev pub change_mission : ℕ → (LineMission → LineMission) → LineState → LineState
change_mission t change v = set_mission t (option_map change (v.mission t)) v

-- a mission ends if no section is given to its train
-- Rules: LC-10
abbrev pub close_if_empty : Line → ℕ → LineState → LineState
close_if_empty line t v =
    if list_any (λ s. is_given_to t (v.mark s)) (range_with_len 0 (section_count line)) then v else set_mission t None v

-- records T_TRAIN of the message as the last that centre c received from the train
abbrev pub hears : ℕ → TrainMessage → LineState → LineState
hears c m v = record v { heard = put_pair v.heard m.nid_engine c (Some m.t_train) }

-- the message from centre c to train t; its T_TRAIN counts the messages of c to t
abbrev pub saying_of : ℕ → ℕ → ℕ → TrackBody → LineState → Saying
saying_of t c group body v =
    record { nid_engine = t; message = record { t_train = v.said t c + 1; nid_lrbg = group; body = body } }

abbrev pub says : ℕ → ℕ → LineState → LineState
says t c v = record v { said = put_pair v.said t c (v.said t c + 1) }

-- the messages to trains and the replies to the interlocking, of one step or of one piece
pub record Said : Type 0 where
  pub sayings : List Saying
  pub words : List Word

abbrev pub nothing : Said
nothing = record { sayings = []; words = [] }
