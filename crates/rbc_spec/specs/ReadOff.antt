-- The read-off: which state of the one line centre represents a world of centres.
use Rattle.std.specs.List.{filter_map, find, flat_map, range_with_len}
use Rattle.std.specs.Option.{option_map_or}
use Rattle.std.specs.Prelude.{if◌then◌else◌, ◌++◌, ◌==◌, ◌≡◌, ◌≤◌, false, length, List, map, None, Option, option_map}
use Rattle.std.specs.Prelude.{slice_get, Some, true, ℕ}
use Rattle.rbc_spec.specs.Centre as centre
use Rattle.rbc_spec.specs.Frame.{Body, carried_place, Frame, Yield}
use Rattle.rbc_spec.specs.Line.{is_centre, is_home, Line, section}
use Rattle.rbc_spec.specs.LineCentre.{At, Given, IsHand, Kept, line_beginning, LineMission, LineState, Mark, Open}
use Rattle.rbc_spec.specs.LineCentre.{Parted, Shut}
use Rattle.rbc_spec.specs.Maps.{has}
use Rattle.rbc_spec.specs.Run as run
use Rattle.rbc_spec.specs.SectionRuns.{SectionRun, within}
use Rattle.rbc_spec.specs.World.{Answer, Event, way, World}

-- ## The mission of a train

-- a mission, and its hand
pub record Held : Type 0 where
  pub mission : LineMission
  pub hand : SectionRun

-- a mission of centre c, as the line's state has it
abbrev pub seen : ℕ → centre.Mission → LineMission
seen c m =
    record { place = m.place; has_data = m.has_data; is_ended = m.is_ended; proposal = m.proposal; supervisor = At c }

abbrev pub held_at : World → ℕ → ℕ → Option Held
held_at w t c = option_map (λ m. record { mission = seen c m; hand = m.hand }) ((w.at c).mission t)

-- the mission that a Yield hands over; nobody supervises it
abbrev pub handed_over : ℕ → Body → Option Held
handed_over t (Yield number u heard has_data is_ended place hand) =
    if u == t
    then option_map (λ at. record {
      mission = record {
        place = at;
        has_data = has_data;
        is_ended = is_ended;
        proposal = None;
        supervisor = Parted heard;
      };
      hand = hand;
    }) (carried_place place)
    else None
handed_over t body = None

-- the numbers of the line's centres
abbrev pub centres_of : Line → List ℕ
centres_of line = range_with_len 0 (length line.centres)

-- the frames on the way between any two centres of the line
abbrev pub frames_on_way : Line → World → List Frame
frames_on_way line w = flat_map (λ a. flat_map (λ b. way w a b) (centres_of line)) (centres_of line)

-- the missions of a train at the centres of the line and in Yields on the way
abbrev pub all_held : Line → World → ℕ → List Held
all_held line w t =
    filter_map (held_at w t) (centres_of line) ++ filter_map (λ f. handed_over t f.body) (frames_on_way line w)

abbrev pub held : Line → World → ℕ → Option Held
held line w t = slice_get (all_held line w t) 0

-- the train whose hand has the section
abbrev pub holder : Line → World → ℕ → Option ℕ
holder line w s = find (λ t. has (λ h. within h.hand s) (held line w t)) (map (λ p. p.nid_engine) line.trains)

-- The mark of a section. In a hand it is given. Else it is kept for the train for which its home has it in use, or it
-- is shut or open as in the book.
abbrev pub mark_of : Option ℕ → centre.Entry → Mark
mark_of (Some t) entry = Given t
mark_of None centre.Shut = Shut
mark_of None centre.Open = Open
mark_of None (centre.Taken t) = Kept t
mark_of None (centre.Out t) = Kept t

-- ## The state that represents a world

-- State v represents the world w. No state does if a section is in two hands, or if a train has two missions. Nor does
-- one if a centre that is not of the line has a mission. A hand is exactly the set of sections that are given to its
-- train.
-- Rules: LC-20, LC-21, LC-22
pub record StandsFor (line : Line) (w : World) (v : LineState) : Type 0 where
  pub phase : (t c : ℕ) → v.phase t c ≡ (w.at c).phase t
  pub heard : (t c : ℕ) → v.heard t c ≡ (w.at c).heard t
  pub said : (t c : ℕ) → v.said t c ≡ (w.at c).said t
  pub wait : (t c : ℕ) → v.wait t c ≡ (w.at c).wait t
  pub wish : (s c : ℕ) → is_home line c s ≡ true → v.wish s ≡ (w.at c).wish s
  pub mark : (s c : ℕ) → is_home line c s ≡ true → v.mark s ≡ mark_of (holder line w s) ((w.at c).book s)
  pub in_use : (s c t : ℕ) → is_home line c s ≡ true → holder line w s ≡ Some t
      → centre.is_used_for t ((w.at c).book s) ≡ true
  pub mission : (t : ℕ) → v.mission t ≡ option_map (λ h. h.mission) (held line w t)
  pub none_else : (t c : ℕ) → is_centre line c ≡ false → (w.at c).mission t ≡ None
  pub one_seat : (t : ℕ) → length (all_held line w t) ≤ 1
  pub hands : (t : ℕ) (h : Held) → held line w t ≡ Some h → IsHand v t h.hand

-- the state that is read off a world; a number that is not of a section is shut
-- Rules: LC-22
unfoldable pub read_off : Line → World → LineState
read_off line w = record {
  mark = λ s. option_map_or (λ p. mark_of (holder line w s) ((w.at p.home).book s)) (section line s) Shut;
  wish = λ s. has (λ p. (w.at p.home).wish s) (section line s);
  phase = λ t c. (w.at c).phase t;
  heard = λ t c. (w.at c).heard t;
  said = λ t c. (w.at c).said t;
  wait = λ t c. (w.at c).wait t;
  mission = λ t. option_map (λ h. h.mission) (held line w t);
}

-- ## The main theorem

-- The main theorem for a list of events and the answers to them. They are a run of the one line centre from its initial
-- state, and the last state of the run represents the world after them.
-- Rules: CL-1
pub record IsLineRun (line : Line) (events : List Event) (answers : List Answer) (w : World) : Type 0 where
  pub last : LineState
  pub is_run : run.Run line line_beginning events answers last
  pub stands : StandsFor line w last
