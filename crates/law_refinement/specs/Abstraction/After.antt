-- The state of the one line centre after an act of one centre: the changes of the act, and no others.
use Rattle.std.specs.Prelude.{◌≡◌, ◌≢◌, ℕ, ◌<◌, Bool, true, false, List, Option, Some, None, option_map, Contains}
use Rattle.law_base.specs.Counting.Network.{way}
use Rattle.law_base.specs.Counting.Resource.{Resource, sent_by, placed}
use Rattle.rbc_spec.specs.Maps.{put, put_pair}
use Rattle.rbc_spec.specs.SectionRuns.{SectionRun}
use Rattle.rbc_spec.specs.Line.{Line, is_home, section}
use Rattle.rbc_spec.specs.Place.{Place}
use Rattle.rbc_spec.specs.Frame.{Body, Yield, yielded_place}
use Rattle.rbc_spec.specs.Centre as centre
use Rattle.rbc_spec.specs.Centre.{Centre, is_used_for}
use Rattle.rbc_spec.specs.LineCentre.{LineState, Mark, Shut, Open, Kept, Given, LineMission}
use Rattle.rbc_spec.specs.ReadOff.{seen}
use Rattle.law_base.specs.Local.Local.{hand_has}
use Rattle.law_invariants.specs.Flow.Flow.{Flow, centre_count}
use Rattle.law_invariants.specs.Flow.Counts.{hands, missions}
use Rattle.law_invariants.specs.Flow.Shows.{is_in_hand, parted}
use Rattle.law_refinement.specs.Abstraction.Acts.{SendsNone, IsMissionHere}

-- a value of each train at each centre: at centre c it is that of the centre's new state, elsewhere it is unchanged
pub record PartAfter {X : Type 0} (c : ℕ) (old : ℕ → ℕ → X) (now : ℕ → X) (part : ℕ → ℕ → X) : Type 0 where
  pub here : (t : ℕ) → part t c ≡ now t
  pub elsewhere : (t d : ℕ) → d ≢ c → part t d ≡ old t d

-- the value is unchanged if the centre's own values are unchanged
abbrev pub PartStays : Type 0 → Type 0
PartStays X = (c : ℕ) (old : ℕ → ℕ → X) (now : ℕ → X) → ((t : ℕ) → old t c ≡ now t) → PartAfter c old now old

-- the value changes at one pair if the centre changed its own value for one train
abbrev pub PartChanges : Type 0 → Type 0
PartChanges X =
    (c t : ℕ) (x : X) (old : ℕ → ℕ → X) (was now : ℕ → X) → ((u : ℕ) → old u c ≡ was u)
    → ((u : ℕ) → now u ≡ put was t x u)
    → PartAfter c old now (put_pair old t c x)

-- The mark of section s of home d. It stays if the home has the same entry, and the section is in the hand of its train
-- as before. Else it follows from the entry and the hands after the act.
pub data MarkAfter (line : Line) (w new : Flow) (s d : ℕ) (old mark : Mark) : Type 0 where
  stays : mark ≡ old → (new.at d).book s ≡ (w.at d).book s
      → ((t : ℕ) → is_used_for t ((w.at d).book s) ≡ true → is_in_hand line new s t ≡ is_in_hand line w s t)
      → MarkAfter line w new s d old mark
  is_given : (t : ℕ) → mark ≡ Given t → is_used_for t ((new.at d).book s) ≡ true → is_in_hand line new s t ≡ true
      → MarkAfter line w new s d old mark
  is_kept : (t : ℕ) → mark ≡ Kept t → is_used_for t ((new.at d).book s) ≡ true → is_in_hand line new s t ≡ false
      → MarkAfter line w new s d old mark
  is_opened : mark ≡ Open → (new.at d).book s ≡ centre.Open → MarkAfter line w new s d old mark
  is_shut : mark ≡ Shut → (new.at d).book s ≡ centre.Shut → MarkAfter line w new s d old mark

-- a train's mission, as a flow has it
pub record ShowsMission (line : Line) (w : Flow) (t : ℕ) (mission : Option LineMission) : Type 0 where
  pub at_centre : (c : ℕ) (m : centre.Mission) → (w.at c).mission t ≡ Some m → mission ≡ Some (seen c m)
  pub on_way : (a b number heard : ℕ) (has_data is_ended : Bool) (place : Place) (hand : SectionRun)
      → Contains (way w a b) (Yield number t heard has_data is_ended (yielded_place place) hand)
      → mission ≡ Some (parted heard has_data is_ended place)
  pub none : placed (missions t) (centre_count line) w ≡ 0 → mission ≡ None

-- The mission of train t after an act of c. It stays if the centre's mission, as the line sees it, is unchanged. Else
-- it is the centre's mission: set, changed or taken over. Or it is on the way in a Yield that the centre sends. Or it
-- ended.
pub data MissionAfter (line : Line) (w : Flow) (c : ℕ) (came : Resource Centre Body → ℕ) (y : Centre)
    (frames : ℕ → List Body) (t : ℕ) (old mission : Option LineMission) : Type 0 where
  stays : mission ≡ old → option_map (seen c) (y.mission t) ≡ option_map (seen c) ((w.at c).mission t)
      → came (missions t) ≡ 0 → SendsNone (missions t) c frames
      → MissionAfter line w c came y frames t old mission
  is_here : (m : centre.Mission) → mission ≡ Some (seen c m) → y.mission t ≡ Some m → IsMissionHere line w c came t
      → SendsNone (missions t) c frames
      → MissionAfter line w c came y frames t old mission
  handed_over : (m : centre.Mission) → (w.at c).mission t ≡ Some m → y.mission t ≡ None
      → 0 < sent_by (missions t) (centre_count line) c frames
      → ((b number heard : ℕ) (has_data is_ended : Bool) (place : Place) (hand : SectionRun)
      → Contains (frames b) (Yield number t heard has_data is_ended (yielded_place place) hand)
      → mission ≡ Some (parted heard has_data is_ended place))
      → MissionAfter line w c came y frames t old mission
  ended : (m : centre.Mission) → mission ≡ None → (w.at c).mission t ≡ Some m → y.mission t ≡ None
      → SendsNone (missions t) c frames
      → MissionAfter line w c came y frames t old mission

-- the shown state changes from v to `after`, each field by its own law
pub record ShowsAfter (line : Line) (w : Flow) (c : ℕ) (came : Resource Centre Body → ℕ) (y : Centre)
    (frames : ℕ → List Body) (new : Flow) (v after : LineState) : Type 0 where
  pub phase : PartAfter c v.phase y.phase after.phase
  pub heard : PartAfter c v.heard y.heard after.heard
  pub said : PartAfter c v.said y.said after.said
  pub wait : PartAfter c v.wait y.wait after.wait
  pub wish : (s : ℕ) → is_home line c s ≡ true → after.wish s ≡ y.wish s
  pub other_wish : (s : ℕ) → is_home line c s ≡ false → after.wish s ≡ v.wish s
  pub mark : (s d : ℕ) → is_home line d s ≡ true → MarkAfter line w new s d (v.mark s) (after.mark s)
  pub no_section : (s : ℕ) → section line s ≡ None → after.mark s ≡ v.mark s
  pub mission : (t : ℕ) → MissionAfter line w c came y frames t (v.mission t) (after.mission t)

-- An act of c that changes only sessions, stamps received and counts of messages sent. The book, wishes, waiting
-- starts, and missions with their hands stay. No hand and no mission arrives or is sent.
pub record IsUnseen (c : ℕ) (k : Centre) (came : Resource Centre Body → ℕ) (y : Centre)
    (frames : ℕ → List Body) : Type 0 where
  pub book : (s : ℕ) → y.book s ≡ k.book s
  pub wish : (s : ℕ) → y.wish s ≡ k.wish s
  pub wait : (t : ℕ) → y.wait t ≡ k.wait t
  pub mission : (t : ℕ) → option_map (seen c) (y.mission t) ≡ option_map (seen c) (k.mission t)
  pub hand : (t s : ℕ) → hand_has (y.mission t) s ≡ hand_has (k.mission t) s
  pub no_mission_came : (t : ℕ) → came (missions t) ≡ 0
  pub no_hand_came : (t s : ℕ) → came (hands t s) ≡ 0
  pub no_mission_sent : (t : ℕ) → SendsNone (missions t) c frames
  pub no_hand_sent : (t s : ℕ) → SendsNone (hands t s) c frames
