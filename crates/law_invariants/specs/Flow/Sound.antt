-- Invariants of the centres of a line and of the frames on the way, which hold after all events.
use Rattle.std.specs.Prelude.{length, nat_lt, ◌≡◌, ◌⊎◌, ℕ, ◌+◌, ◌*◌, ◌≤◌, true, false, [], Some, None, is_some}
use Rattle.law_base.specs.Counting.Sums.{one_if}
use Rattle.law_base.specs.Counting.Network.{IsCounted, EachOnTheWay}
use Rattle.law_base.specs.Counting.Resource.{IsWithinCap, IsAtCap}
use Rattle.rbc_spec.specs.Maps.{has}
use Rattle.rbc_spec.specs.SectionRuns.{SectionRun, most_in_hand, within, next_after, is_empty}
use Rattle.rbc_spec.specs.Line.{Line, is_centre, is_home, section_of_group, next_centre, train_number}
use Rattle.rbc_spec.specs.Sections.{is_on}
use Rattle.rbc_spec.specs.Place.{Place, covered, group_start}
use Rattle.rbc_spec.specs.Frame.{YieldedPlace, yielded_place, Body, Announce, Cancel, Yield}
use Rattle.rbc_spec.specs.Centre.{Centre, Shut, Mission, Handing, is_unused, is_taken_for}
use Rattle.law_base.specs.Local.Local.{hand_has}
use Rattle.law_invariants.specs.Flow.Flow.{Flow, centre_count}
use Rattle.law_invariants.specs.Flow.Counts.{wait_has, rights, tokens}
use Rattle.law_invariants.specs.Flow.Pairs.{IsPaired}

-- ## Of one centre

-- a hand of 1 to 32 sections of the place's track, with the place's group on it and not in advance of the front
pub record IsHandAt (line : Line) (place : Place) (hand : SectionRun) : Type 0 where
  pub some : 1 ≤ hand.count
  pub few : hand.count ≤ most_in_hand
  pub on_track : (s : ℕ) → within hand s ≡ true → is_on line place.track s ≡ true
  pub group : has (is_on line place.track) (section_of_group line place.group) ≡ true
  pub front : 10 * group_start line place ≤ place.front

-- the section is of the centre that is the next on its track after c, of which c may ask for it
pub record IsOfNext (line : Line) (c s : ℕ) : Type 0 where
  pub home : (track d : ℕ) → is_on line track s ≡ true → next_centre line c track ≡ Some d → is_home line d s ≡ true

-- the mission has reached centre d: a handover is pending, or the hand has a section of d
abbrev pub HasComeTo : Line → ℕ → Mission → Type 0
HasComeTo line d m = (is_some m.handing ≡ true) ⊎ ((e : ℕ) × (within m.hand e ≡ true) × (is_home line d e ≡ true))

-- A mission at centre c. Its pool follows the hand at once, on its track, and is of the next centre. A handover that it
-- announced is to the next centre. If it has reached that, no section of the hand is of the centre beyond.
pub record IsMissionAt (line : Line) (c : ℕ) (k : Centre) (m : Mission) : Type 0 where
  pub hand : IsHandAt line m.place m.hand
  pub pool_follows : is_empty m.pool ≡ false → m.pool.first ≡ next_after m.hand
  pub pool_away : (s : ℕ) → within m.pool s ≡ true → is_home line c s ≡ false
  pub pool_on : (s : ℕ) → within m.pool s ≡ true → is_on line m.place.track s ≡ true
  pub pool_next : (s d : ℕ) → next_centre line c m.place.track ≡ Some d → within m.pool s ≡ true
      → is_home line d s ≡ true
  pub handing_to : (h : Handing) → m.handing ≡ Some h → next_centre line c m.place.track ≡ Some h.to
  pub handing_number : (h : Handing) → m.handing ≡ Some h → (1 ≤ h.number) × (h.number ≤ k.announced)
  pub hand_ends : (s d n : ℕ) → next_centre line c m.place.track ≡ Some d → next_centre line d m.place.track ≡ Some n
      → HasComeTo line d m
      → within m.hand s ≡ true → is_home line n s ≡ false

pub record IsCentreSound (line : Line) (c : ℕ) (k : Centre) : Type 0 where
  -- a home section is taken if and only if a waiting start or a hand has it
  pub claims : (s t : ℕ) → is_home line c s ≡ true
      → one_if (is_taken_for t (k.book s)) ≡ one_if (wait_has line (k.wait t) s) + one_if (hand_has (k.mission t) s)
  pub foreign : (s : ℕ) → is_home line c s ≡ false → k.book s ≡ Shut
  -- sections are requested only from the next centre
  pub asks : (t first : ℕ) → k.route_ask t ≡ Some first → IsOfNext line c first
  pub unwished : (s : ℕ) → is_unused (k.book s) ≡ true → k.wish s ≡ false
  -- a start that waits could begin here
  pub wait_home : (t s : ℕ) → wait_has line (k.wait t) s ≡ true → is_home line c s ≡ true
  pub wait_fits : (t : ℕ) (place : Place) → k.wait t ≡ Some place → IsHandAt line place (covered line place)
  pub wait_known : (t : ℕ) (place : Place) → k.wait t ≡ Some place
      → (is_some (train_number line t) ≡ true) × (is_some (k.heard t) ≡ true)
  pub mission : (t : ℕ) (m : Mission) → k.mission t ≡ Some m → IsMissionAt line c k m
  pub mission_known : (t : ℕ) (m : Mission) → k.mission t ≡ Some m
      → (is_some (train_number line t) ≡ true) × (is_some (k.heard t) ≡ true)

-- ## Frames on the way

-- A Yield from a to b carries a place of the line with its hand. It goes to the next centre, and no section of the hand
-- is of the centre beyond.
pub record IsYieldSound (line : Line) (a b t : ℕ) (carried : YieldedPlace) (hand : SectionRun) : Type 0 where
  pub place : Place
  pub is_carried : carried ≡ yielded_place place
  pub is_hand : IsHandAt line place hand
  pub to_next : next_centre line a place.track ≡ Some b
  pub known : is_some (train_number line t) ≡ true
  pub hand_ends : (s n : ℕ) → next_centre line b place.track ≡ Some n → within hand s ≡ true → is_home line n s ≡ false

-- a Yield is sound as above; an announcement names a train and a track of the line, and a cancellation a train
abbrev pub IsBodySound : Line → ℕ → ℕ → Body → Type 0
IsBodySound line a b (Yield number t heard has_data is_ended place hand) = IsYieldSound line a b t place hand
IsBodySound line a b (Announce number t track) =
    (is_some (train_number line t) ≡ true) × (nat_lt track (length line.tracks) ≡ true)
IsBodySound line a b (Cancel number t) = is_some (train_number line t) ≡ true
IsBodySound line a b body = Unit {0}

-- ## Of all

-- any two centres agree on the handover of each train from one to the other
abbrev pub ArePaired : Line → Flow → Type 0
ArePaired line w = (a b t : ℕ) → is_centre line a ≡ true → is_centre line b ≡ true → IsPaired w a b t

pub record IsFlowSound (line : Line) (w : Flow) : Type 0 where
  pub counted : IsCounted w
  pub centres : (c : ℕ) → is_centre line c ≡ true → IsCentreSound line c (w.at c)
  -- no other centre has anything, and nothing is sent to one
  pub no_mission : (c t : ℕ) → is_centre line c ≡ false → (w.at c).mission t ≡ None
  pub no_sent : (a b : ℕ) → (is_centre line a ≡ false) ⊎ (is_centre line b ≡ false) → w.sent a b ≡ []
  pub rights : (t : ℕ) → IsWithinCap (rights line t) (centre_count line) w
  pub tokens : (t s : ℕ) → IsWithinCap (tokens line t s) (centre_count line) w
  pub bodies : EachOnTheWay (IsBodySound line) w
  pub pairs : ArePaired line w

-- Nothing is lost either: the right of each train, and the token of each section in use, is somewhere
pub record LosesNothing (line : Line) (w : Flow) : Type 0 where
  pub rights : (t : ℕ) → IsAtCap (rights line t) (centre_count line) w
  pub tokens : (t s : ℕ) → IsAtCap (tokens line t s) (centre_count line) w
