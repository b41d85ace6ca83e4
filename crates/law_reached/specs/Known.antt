-- The facts that are known of a world after a list of events. They have at most one proof, so a value may keep it. If a
-- world is sound for one of two reasons, the fact stated here is the test between them.
use Rattle.std.specs.Prelude.{[], ◌&&◌, ◌+◌, ◌<◌, ◌≡◌, ◌≤◌, false, is_some, length, nat_lt, None, option_map, Some}
use Rattle.std.specs.Prelude.{true, ℕ}
use Rattle.law_base.specs.Counting.Chain.{Chain}
use Rattle.law_base.specs.Counting.Network.{EachOnTheWay, IsCounted, way}
use Rattle.law_invariants.specs.Flow.Flow.{Flow, flow_of}
use Rattle.law_invariants.specs.Flow.Numbers.{IsNumbered}
use Rattle.law_invariants.specs.Flow.Pairs.{after, before, follows, handing_to}
use Rattle.law_invariants.specs.Flow.Shows.{Shows}
use Rattle.law_invariants.specs.Flow.Sound.{IsCentreSound, IsHandAt, LosesNothing}
use Rattle.law_refinement.specs.Announced.{IsAnnounced}
use Rattle.rbc_spec.specs.Frame.{Announce, Body, Cancel, carried_place, Yield, YieldedPlace}
use Rattle.rbc_spec.specs.Line.{is_centre, is_home, Line, next_centre, train_number}
use Rattle.rbc_spec.specs.Place.{Place}
use Rattle.rbc_spec.specs.ReadOff.{read_off}
use Rattle.rbc_spec.specs.SectionRuns.{SectionRun, within}
use Rattle.rbc_spec.specs.World.{World}

-- ## Frames on the way

-- A Yield from a to b carries a place that is of the line with its hand. It goes to the next centre, and no section of
-- the hand is of the centre beyond.
pub record IsYieldKnown (line : Line) (a b t : ℕ) (carried : YieldedPlace) (hand : SectionRun) : Type 0 where
  pub carries : is_some (carried_place carried) ≡ true
  pub is_hand : (place : Place) → carried_place carried ≡ Some place → IsHandAt line place hand
  pub to_next : (place : Place) → carried_place carried ≡ Some place → next_centre line a place.track ≡ Some b
  pub known : is_some (train_number line t) ≡ true
  pub hand_ends : (place : Place) → carried_place carried ≡ Some place → (s n : ℕ)
      → next_centre line b place.track ≡ Some n → within hand s ≡ true → is_home line n s ≡ false

-- an announcement and its cancellation name a train and a track of the line
abbrev pub IsBodyKnown : Line → ℕ → ℕ → Body → Type 0
IsBodyKnown line a b (Yield number t heard has_data is_ended place hand) = IsYieldKnown line a b t place hand
IsBodyKnown line a b (Announce number t track) =
    (is_some (train_number line t) ≡ true) × (nat_lt track (length line.tracks) ≡ true)
IsBodyKnown line a b (Cancel number t) = is_some (train_number line t) ≡ true
IsBodyKnown line a b body = Unit {0}

-- The handover of train t from a to b. The frames on the way turn the number that b expects into the one that a
-- announced. A number above the last announced is nowhere. No number is pending twice, or both before and after b
-- replies that it takes over.
pub record IsPairKnown (w : Flow) (a b t : ℕ) : Type 0 where
  pub chain : Chain (follows t) (way w a b) (option_map (λ e. e.number) ((w.at b).expects a t))
      (option_map (λ h. h.number) (handing_to b ((w.at a).mission t)))
  pub fresh : (h : ℕ) → (w.at a).announced < h → before w a b t h + after w a b t h ≡ 0
  pub once : (h : ℕ) → before w a b t h ≤ 1
  pub apart : (h : ℕ) → 0 < before w a b t h → after w a b t h ≡ 0

-- ## A world

pub record IsKnown (line : Line) (w : World) : Type 0 where
  -- each centre is sound by itself; no other centre has anything, and nothing is sent to one
  pub centres : (c : ℕ) → is_centre line c ≡ true → IsCentreSound line c (w.at c)
  pub no_mission : (c t : ℕ) → is_centre line c ≡ false → (w.at c).mission t ≡ None
  pub no_wait : (c t : ℕ) → is_centre line c ≡ false → (w.at c).wait t ≡ None
  pub no_sent : (a b : ℕ) → (is_centre line a && is_centre line b) ≡ false → (w.at a).sent b ≡ []
  -- frames are numbered, only frames that were sent were taken, and each frame on the way keeps the rule of its kind
  pub numbered : IsNumbered w
  pub counted : IsCounted (flow_of w)
  pub bodies : EachOnTheWay (IsBodyKnown line) (flow_of w)
  -- any two centres agree on each handover, and each is announced as soon as it is due
  pub pairs : (a b t : ℕ) → is_centre line a ≡ true → is_centre line b ≡ true → IsPairKnown (flow_of w) a b t
  pub announced : IsAnnounced line w
  -- no right and no token of a section is lost or in two places
  pub whole : LosesNothing line (flow_of w)
  -- the one line centre shows the world, in the state that is read off it
  pub shows : Shows line (flow_of w) (read_off line w)
