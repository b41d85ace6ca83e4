-- The view of a line by its centres and the frames on the way between them.
use Rattle.std.specs.Prelude.{◌≡◌, ℕ, Bool, true, false, length, slice_get, Option, Some, None, option_map, is_some}
use Rattle.std.specs.List.{find, filter_map, range_with_len}
use Rattle.std.specs.Option.{option_map_or}
use Rattle.rbc_spec.specs.Line.{Line, is_home, section, train_number}
use Rattle.rbc_spec.specs.Centre.{Mission}
use Rattle.rbc_spec.specs.LineCentre.{Shut, IsHand}
use Rattle.rbc_spec.specs.World.{World}
use Rattle.rbc_spec.specs.ReadOff.{Held, held, held_at, handed_over, frames_on_way, read_off}
use Rattle.rbc_spec.specs.Promises.{is_given}
use Rattle.law_invariants.specs.Flow.Shows.{shown}

-- the first centre of the line that has a mission of the train
abbrev pub supervisor_of : Line → World → ℕ → Option ℕ
supervisor_of line w t = find (λ c. is_some ((w.at c).mission t)) (range_with_len 0 (length line.centres))

-- the mission that the first Yield of the train on the way carries
abbrev pub yielded_on_way : Line → World → ℕ → Option Held
yielded_on_way line w t = slice_get (filter_map (λ f. handed_over t f.body) (frames_on_way line w)) 0

-- the hand of the train's mission, at any place, has the section
abbrev pub is_in_its_hand : Line → World → ℕ → ℕ → Bool
is_in_its_hand line w s t = is_given line w t s

-- The mission of a train is that of the centre that has one, or else that of a Yield on the way. No other centre has a
-- mission of the train. The train is of the line, and its hand is exactly the sections that are given to it.
pub record AreMissionsSeen (line : Line) (w : World) : Type 0 where
  pub mission : (t : ℕ) → (read_off line w).mission t ≡ option_map (λ h. h.mission) (held line w t)
  pub found : (t : ℕ) → held line w t ≡ option_map_or (held_at w t) (supervisor_of line w t) (yielded_on_way line w t)
  pub alone : (t c : ℕ) (m : Mission) → (w.at c).mission t ≡ Some m → supervisor_of line w t ≡ Some c
  pub none_meanwhile : (t c : ℕ) (m : Mission) → (w.at c).mission t ≡ Some m → yielded_on_way line w t ≡ None
  pub known : (t : ℕ) (h : Held) → held line w t ≡ Some h → is_some (train_number line t) ≡ true
  pub hand : (t : ℕ) (h : Held) → held line w t ≡ Some h → IsHand (read_off line w) t h.hand

-- The mark and the wish of each section are those of its home's book. A section in use is given if it is in its train's
-- hand. A number that is not of a section is shut, and not wished back.
pub record AreSectionsSeen (line : Line) (w : World) : Type 0 where
  pub mark : (s c : ℕ) → is_home line c s ≡ true
      → (read_off line w).mark s ≡ shown ((w.at c).book s) (is_in_its_hand line w s)
  pub wish : (s c : ℕ) → is_home line c s ≡ true → (read_off line w).wish s ≡ (w.at c).wish s
  pub no_mark : (s : ℕ) → section line s ≡ None → (read_off line w).mark s ≡ Shut
  pub no_wish : (s : ℕ) → section line s ≡ None → (read_off line w).wish s ≡ false
