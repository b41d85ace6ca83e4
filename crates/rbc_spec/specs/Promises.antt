-- The promises of the centres of a line, of a world and of one event. Each is proved, and each can be read without the
-- one line centre.
use Rattle.std.specs.List.{Contains, count_by, flat_map}
use Rattle.std.specs.Option.{option_map_or}
use Rattle.std.specs.Prelude.{[], if◌then◌else◌, ◌*◌, ◌++◌, ◌+◌, ◌<◌, ◌==◌, ◌∷◌, ◌≡◌, ◌≤◌, ◌⊎◌, Bool, false, is_some}
use Rattle.std.specs.Prelude.{length, List, map, None, Ok, Some, true, ℕ}
use Rattle.rbc_spec.specs.Centre as centre
use Rattle.rbc_spec.specs.Frame.{Body, Frame, GiveRight, ReturnRight, RouteInfo, RouteReturn, Yield}
use Rattle.rbc_spec.specs.Line.{end, is_home, Line, registrar, start}
use Rattle.rbc_spec.specs.Maps.{has}
use Rattle.rbc_spec.specs.Message.{EndOfMission, Report, ShorteningGranted, TrainMessage}
use Rattle.rbc_spec.specs.Outcome.{Done, Outcome, Told}
use Rattle.rbc_spec.specs.Place.{covered, is_cleared, Place, place_on, Position}
use Rattle.rbc_spec.specs.ReadOff.{all_held, centres_of, frames_on_way, handed_over, held, read_off, StandsFor}
use Rattle.rbc_spec.specs.SectionRuns.{within}
use Rattle.rbc_spec.specs.Step as step
use Rattle.rbc_spec.specs.World.{Answer, Answered, Bytes, Event, Unset, World}

-- ## A world

-- the section is in the train's hand
abbrev pub is_given : Line → World → ℕ → ℕ → Bool
is_given line w t s = has (λ h. within h.hand s) (held line w t)

-- the world is safe, whichever state represents it
-- Rules: CL-2
pub record IsSafe (line : Line) (w : World) : Type 0 where
  -- a train has at most one supervising centre
  pub one_supervisor : (t c d : ℕ) (m n : centre.Mission) → (w.at c).mission t ≡ Some m → (w.at d).mission t ≡ Some n
      → c ≡ d
  -- it has none while a Yield of the train is on the way
  pub none_meanwhile : (t c : ℕ) (m : centre.Mission) (f : Frame) → (w.at c).mission t ≡ Some m
      → Contains (frames_on_way line w) f → handed_over t f.body ≡ None
  -- a section is in the hand of at most one train
  pub one_train : (t u s : ℕ) → is_given line w t s ≡ true → is_given line w u s ≡ true → t ≡ u
  -- its home then has the section in use for that train
  pub in_use : (t s c : ℕ) → is_home line c s ≡ true → is_given line w t s ≡ true
      → centre.is_used_for t ((w.at c).book s) ≡ true

-- ## One place

-- the train, if the test holds
abbrev pub once : Bool → ℕ → List ℕ
once is_so t = if is_so then t ∷ [] else []

-- the train, once for each of its hand, its pool and its waiting start at the centre that has the section
abbrev pub held_for : Line → ℕ → centre.Centre → ℕ → List ℕ
held_for line s k t =
    option_map_or (λ m. once (within m.hand s) t ++ once (within m.pool s) t) (k.mission t) []
    ++ option_map_or (λ place. once (within (covered line place) s) t) (k.wait t) []

-- the train for which a frame has the section: lent, returned, or in a hand that is handed over
abbrev pub carried_for : ℕ → Body → List ℕ
carried_for s (RouteInfo t run) = once (within run s) t
carried_for s (RouteReturn t run) = once (within run s) t
carried_for s (Yield number t heard has_data is_ended place hand) = once (within hand s) t
carried_for s body = []

-- the trains that have the section, over all centres and all frames on the way
-- Rules: CL-5
abbrev pub holders : Line → World → ℕ → List ℕ
holders line w s =
    flat_map (λ c. flat_map (held_for line s (w.at c)) (map (λ p. p.nid_engine) line.trains)) (centres_of line)
    ++ flat_map (λ f. carried_for s f.body) (frames_on_way line w)

-- the train for which the home has the section in use
abbrev pub user : centre.Entry → List ℕ
user (centre.Taken t) = t ∷ []
user (centre.Out t) = t ∷ []
user e = []

-- the frame carries the train's right, with or without its mission
abbrev pub carries_right : ℕ → Body → Bool
carries_right t (GiveRight u) = u == t
carries_right t (ReturnRight u) = u == t
carries_right t (Yield number u heard has_data is_ended place hand) = u == t
carries_right t body = false

-- each thing that may be only in one place is in one place
-- Rules: CL-5
pub record HasOnePlace (line : Line) (w : World) : Type 0 where
  -- a section in use is in one place, for the train that its home names; a section not in use is in none
  pub sections : (s c : ℕ) → is_home line c s ≡ true → holders line w s ≡ user ((w.at c).book s)
  pub rights : (t r : ℕ) → registrar line t ≡ Some r
      → count_by (λ c. (w.at c).has_right t) (centres_of line)
      + count_by (λ c. is_some ((w.at c).mission t)) (centres_of line)
      -- the right of a train of the line is at one centre, in one mission, or in one frame
      + count_by (λ f. carries_right t f.body) (frames_on_way line w) ≡ 1
  -- a train has at most one mission: at a centre, or in a frame that hands it over
  pub missions : (t : ℕ) → length (all_held line w t) ≤ 1

-- the facts that hold of each world after a list of events
-- Rules: CL-6
pub record IsSound (line : Line) (w : World) : Type 0 where
  -- a state of the one line centre represents it: the one that is read off
  pub stands : StandsFor line w (read_off line w)
  pub safe : IsSafe line w  -- so each train has one supervisor at most, and each section one train
  pub one_place : HasOnePlace line w  -- no section in use and no right is lost or in two places

-- ## One event

-- The event may free a section of train t. It is a message of the train that its supervisor answers, and one of three
-- things holds. `cleared`: a report or an end of mission clears the section. `shortened`: the train grants the pending
-- request, which keeps only sections before this one, and its front is not past the kept part. `stopped`: the train
-- ends its mission at standstill, has reached its hand, and the section starts at the front or past it. It has reached
-- its hand if a section of the hand starts before the front, and the same message does not clear that section.
-- Rules: CL-3
pub data MayFree (line : Line) (w : World) (t s : ℕ) : Event → Type 0 where
  cleared : (c : ℕ) (m : TrainMessage) (position : Position) (n : centre.Mission) (place : Place)
      → m.nid_engine ≡ t → step.silence line c (w.at c) m ≡ None → (w.at c).mission t ≡ Some n
      → (m.body ≡ Report position) ⊎ (m.body ≡ EndOfMission position)
      → place_on line n.place.track position ≡ Some place → is_cleared line place s ≡ true
      → MayFree line w t s (Bytes c (Ok m))
  shortened : (c : ℕ) (m : TrainMessage) (position : Position) (n : centre.Mission) (p : centre.Proposal)
      (place : Place)
      → m.nid_engine ≡ t → step.silence line c (w.at c) m ≡ None → (w.at c).mission t ≡ Some n → n.proposal ≡ Some p
      → m.body ≡ ShorteningGranted p.stamp position → place_on line n.place.track position ≡ Some place
      → place.front ≤ 10 * end line p.last_kept → p.last_kept < s → MayFree line w t s (Bytes c (Ok m))
  stopped : (c : ℕ) (m : TrainMessage) (position : Position) (n : centre.Mission) (place : Place) (r : ℕ)
      → m.nid_engine ≡ t → step.silence line c (w.at c) m ≡ None → (w.at c).mission t ≡ Some n
      → m.body ≡ EndOfMission position → position.v_train ≡ 0
      → place_on line n.place.track position ≡ Some place → is_given line w t r ≡ true
      → is_cleared line place r ≡ false → 10 * start line r < place.front
      → place.front ≤ 10 * start line s → MayFree line w t s (Bytes c (Ok m))

-- the effect of an event on the sections in hands, and its replies to the interlocking
-- Rules: CL-3, CL-4
pub record KeepsPromises (line : Line) (w : World) (event : Event) (answer : Answer) (new : World) : Type 0 where
  -- a section leaves a train's hand only by a message of that train
  pub freed : (t s : ℕ) → is_given line w t s ≡ true → is_given line new t s ≡ false → MayFree line w t s event
  pub told : (o : Outcome) (s c : ℕ) → answer ≡ Answered o → is_home line c s ≡ true → Contains o.words (Told s)
      -- a section that is reported back is shut, and its wish has ended
      → ((new.at c).book s ≡ centre.Shut) × ((new.at c).wish s ≡ false)
  -- a section that an unset takes back at once is shut
  pub done : (o : Outcome) (s c : ℕ) → answer ≡ Answered o → event ≡ Unset c s → Contains o.words (Done s)
      → (new.at c).book s ≡ centre.Shut
