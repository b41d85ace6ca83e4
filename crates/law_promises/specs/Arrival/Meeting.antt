-- The true positions of trains. If each train is within the stretch by which it runs, no two trains are on one section.
use Rattle.std.specs.Prelude.{◌&&◌, ◌*◌, ◌≡◌, ◌≤◌, Bool, int_le, int_lt, List, map, nat_lt, Ok, Option, pos, Some, true}
use Rattle.std.specs.Prelude.{ℕ, ℤ}
use Rattle.law_outside.specs.Outside.{nothing_seen, sees_all, Spoken, spoken_of, Stretch, View}
use Rattle.law_promises.specs.Arrival.Arrival.{IsSafeByWhatCame}
use Rattle.law_promises.specs.Arrival.Received.{AreReceived, nothing_known}
use Rattle.rbc_spec.specs.Line.{end, IsLine, Line, start}
use Rattle.rbc_spec.specs.Sections.{is_on}
use Rattle.rbc_spec.specs.World.{Answer, Event, new_world, World, world_run}

-- the true place of a train: its track, its rear end and its front end, in decimetres
pub record Extent : Type 0 where
  pub track : ℕ
  pub rear : ℤ
  pub front : ℕ

-- some part of the train is on the section
abbrev pub is_over : Line → ℕ → Extent → Bool
is_over line s e = (is_on line e.track s && nat_lt (10 * start line s) e.front) && int_lt e.rear (pos (10 * end line s))

-- the train is within the stretch
pub record IsWithin (x : Stretch) (e : Extent) : Type 0 where
  pub track : e.track ≡ x.track
  pub rear : int_le x.rear e.rear ≡ true
  pub front : e.front ≤ 10 * x.end

-- Each train that is on the line is within the stretch by which it runs: it keeps to its authority, and its reports are
-- true.
abbrev pub IsTruthful : View → (ℕ → Option Extent) → Type 0
IsTruthful w extents = (t : ℕ) (e : Extent) → extents t ≡ Some e → (x : Stretch) × (w.stretch t ≡ Some x) × IsWithin x e

-- no two trains are on one section, and no train is on a section that is not released
pub record DoNotMeet (line : Line) (w : View) (extents : ℕ → Option Extent) : Type 0 where
  pub one_train : (t u s : ℕ) (d e : Extent) → extents t ≡ Some d → extents u ≡ Some e
      → is_over line s d ≡ true → is_over line s e ≡ true → t ≡ u
  pub released : (t s : ℕ) (e : Extent) → extents t ≡ Some e → is_over line s e ≡ true → w.released s ≡ true

-- for every view that is safe by the messages that arrived
abbrev pub WithinTheorem : Type 0
WithinTheorem = (line : Line) (w : View) (extents : ℕ → Option Extent)
    → IsSafeByWhatCame line w → IsTruthful w extents → DoNotMeet line w extents

-- for all events of the centres of a line, and every part of their messages that arrives at the trains
abbrev pub MeetingTheorem : Type 0
MeetingTheorem = (line : Line) (events : List Event) (answers : List Answer) (w : World) (came : List (Option Spoken))
    (extents : ℕ → Option Extent)
    → IsLine line → world_run line (new_world line) events ≡ Ok (answers, w)
    → AreReceived nothing_known events (map spoken_of answers) came
    → IsTruthful (sees_all line events came nothing_seen) extents
    → DoNotMeet line (sees_all line events came nothing_seen) extents
