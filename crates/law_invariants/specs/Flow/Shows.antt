-- The state of the one line centre that a flow shows, by the states of the centres and the frames on the way.
use Rattle.std.specs.Prelude.{◌≡◌, ℕ, Bool, true, false, if◌then◌else◌, Some, None, nat_lt, Contains}
use Rattle.law_base.specs.Counting.Network.{way}
use Rattle.law_base.specs.Counting.Resource.{placed}
use Rattle.rbc_spec.specs.SectionRuns.{SectionRun}
use Rattle.rbc_spec.specs.Line.{Line, is_home, section}
use Rattle.rbc_spec.specs.Place.{Place}
use Rattle.rbc_spec.specs.Frame.{Yield, yielded_place}
use Rattle.rbc_spec.specs.Centre as centre
use Rattle.rbc_spec.specs.LineCentre.{LineState, Mark, Shut, Open, Kept, Given, LineMission, Parted}
use Rattle.rbc_spec.specs.ReadOff.{seen}
use Rattle.law_invariants.specs.Flow.Flow.{Flow, centre_count}
use Rattle.law_invariants.specs.Flow.Counts.{hands, missions}

-- a hand, or a Yield on the way, has the section for the train
abbrev pub is_in_hand : Line → Flow → ℕ → ℕ → Bool
is_in_hand line w s t = nat_lt 0 (placed (hands t s) (centre_count line) w)

-- a section in use is given if it is in a hand, and else kept
abbrev pub shown : centre.Entry → (ℕ → Bool) → Mark
shown centre.Shut given = Shut
shown centre.Open given = Open
shown (centre.Taken t) given = if given t then Given t else Kept t
shown (centre.Out t) given = if given t then Given t else Kept t

-- the mission that a Yield hands over
abbrev pub parted : ℕ → Bool → Bool → Place → LineMission
parted heard has_data is_ended place =
    record { place = place; has_data = has_data; is_ended = is_ended; proposal = None; supervisor = Parted heard }

pub record Shows (line : Line) (w : Flow) (v : LineState) : Type 0 where
  pub phase : (t c : ℕ) → v.phase t c ≡ (w.at c).phase t
  pub heard : (t c : ℕ) → v.heard t c ≡ (w.at c).heard t
  pub said : (t c : ℕ) → v.said t c ≡ (w.at c).said t
  pub wait : (t c : ℕ) → v.wait t c ≡ (w.at c).wait t
  pub wish : (s c : ℕ) → is_home line c s ≡ true → v.wish s ≡ (w.at c).wish s
  pub mark : (s c : ℕ) → is_home line c s ≡ true → v.mark s ≡ shown ((w.at c).book s) (is_in_hand line w s)
  pub no_section : (s : ℕ) → section line s ≡ None → v.mark s ≡ Shut
  pub no_wish : (s : ℕ) → section line s ≡ None → v.wish s ≡ false
  pub mission : (t c : ℕ) (m : centre.Mission) → (w.at c).mission t ≡ Some m → v.mission t ≡ Some (seen c m)
  pub on_way : (a b number t heard : ℕ) (has_data is_ended : Bool) (place : Place) (hand : SectionRun)
      → Contains (way w a b) (Yield number t heard has_data is_ended (yielded_place place) hand)
      → v.mission t ≡ Some (parted heard has_data is_ended place)
  pub no_mission : (t : ℕ) → placed (missions t) (centre_count line) w ≡ 0 → v.mission t ≡ None
