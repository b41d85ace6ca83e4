-- The ranges of the values that a centre keeps and receives, as far as its frames are made of them.
use Rattle.std.specs.Prelude.{◌<◌, ◌≡◌, ◌≤◌, ◌⊎◌, All, List, Option, Some, true, ℕ}
use Rattle.rbc_spec.specs.Centre.{Centre, Entry, Expectation, Handing, Mission, Out}
use Rattle.rbc_spec.specs.Frame.{Body, HasBodyRange, HasPlaceRange, HasRunRange, IsEngine, IsHandoverNumber, last_stamp}
use Rattle.rbc_spec.specs.Frame.{yielded_place}
use Rattle.rbc_spec.specs.Line.{is_centre, is_linked, Line}
use Rattle.rbc_spec.specs.Message.{EndOfMission, Report, Request, ShorteningGranted, ShorteningRejected, StartOfMission}
use Rattle.rbc_spec.specs.Message.{TrainBody, TrainData, TrainMessage, unknown_time}
use Rattle.rbc_spec.specs.Place.{covered, Place, Position}
use Rattle.rbc_spec.specs.SectionRuns.{most_in_hand, next_after, SectionRun}
use Rattle.rbc_spec.specs.Step.{Deliver, Event, Set, Train, Unset}

-- ## Values that arrive

-- Q_SCALE is at most 10 m, and L_TRAININT has 15 bits (7.5). Other fields need no range here: a place has a group of
-- the line, and its distances are known.
pub record HasPositionRanges (p : Position) : Type 0 where
  pub scale : p.scale ≤ 100
  pub length : (l : ℕ) → p.l_trainint ≡ Some l → l ≤ 32767

abbrev pub IsReportInRange : TrainBody → Type 0
IsReportInRange (TrainData position) = HasPositionRanges position
IsReportInRange (Request position) = HasPositionRanges position
IsReportInRange (Report position) = HasPositionRanges position
IsReportInRange (ShorteningGranted stamp position) = HasPositionRanges position
IsReportInRange (ShorteningRejected stamp position) = HasPositionRanges position
IsReportInRange (EndOfMission position) = HasPositionRanges position
IsReportInRange (StartOfMission is_valid position) = HasPositionRanges position
IsReportInRange body = Unit {0}

-- T_TRAIN of a header is a time that is known, and its report is in range
pub record HasMessageRanges (m : TrainMessage) : Type 0 where
  pub t_train : m.t_train < unknown_time
  pub report : IsReportInRange m.body

-- an event that arrives at a centre: a train's message at a centre of the line, or a frame's body; the interlocking
-- needs no range
abbrev pub HasEventRanges : Line → ℕ → Event → Type 0
HasEventRanges line c (Train m) = (is_centre line c ≡ true) × HasMessageRanges m
HasEventRanges line c (Set s) = Unit {0}
HasEventRanges line c (Unset s) = Unit {0}
HasEventRanges line c (Deliver d f) = HasBodyRange f.body

-- ## The state of a centre

-- a place whose sections may be a hand
pub record HasStartRanges (line : Line) (p : Place) : Type 0 where
  pub place : HasPlaceRange (yielded_place p)
  pub hand : HasRunRange 1 most_in_hand (covered line p)

-- the parts of a mission at c: a hand, at most 31 sections in its pool, and a handover to a linked centre
pub record HasMissionParts (line : Line) (c : ℕ) (p : Place) (held lent : SectionRun)
    (handover : Option Handing) : Type 0 where
  pub place : HasPlaceRange (yielded_place p)
  pub hand : HasRunRange 1 most_in_hand held
  pub pool : lent.count ≤ 31
  pub follows : (lent.count ≡ 0) ⊎ (lent.first ≡ next_after held)
  pub handing : (h : Handing) → handover ≡ Some h → IsHandoverNumber h.number × (is_linked line c h.to ≡ true)

abbrev pub HasMissionRanges : Line → ℕ → Mission → Type 0
HasMissionRanges line c m = HasMissionParts line c m.place m.hand m.pool m.handing

-- The state of centre c. It has announced at most as many handovers as it made steps. Each stamp of a train is a known
-- time. Each centre that announced a train has a link with it.
pub record HasStateParts (line : Line) (c stamp count : ℕ) (book : ℕ → Entry) (times : ℕ → Option ℕ)
    (missions : ℕ → Option Mission) (waits : ℕ → Option Place)
    (expected : ℕ → ℕ → Option Expectation) : Type 0 where
  pub clock : stamp ≤ last_stamp
  pub announced : count ≤ stamp
  pub out : (s t : ℕ) → book s ≡ Out t → IsEngine t
  pub heard : (t time : ℕ) → times t ≡ Some time → time < unknown_time
  pub mission : (t : ℕ) (m : Mission) → missions t ≡ Some m → HasMissionRanges line c m
  pub wait : (t : ℕ) (place : Place) → waits t ≡ Some place → HasStartRanges line place
  pub expects : (d t : ℕ) (e : Expectation) → expected d t ≡ Some e
      → IsHandoverNumber e.number × (is_linked line c d ≡ true)

abbrev pub HasStateRanges : Line → ℕ → Centre → Type 0
HasStateRanges line c k = HasStateParts line c k.clock k.announced k.book k.heard k.mission k.wait k.expects

-- ## Frames that are sent

-- a body with each field in its range, to a centre that c has a link with
pub record IsSentInRange (line : Line) (c d : ℕ) (f : Body) : Type 0 where
  pub linked : is_linked line c d ≡ true
  pub body : HasBodyRange f

-- a centre is left in its ranges, and sends such bodies
pub record LeavesInRange (line : Line) (c : ℕ) (y : Centre) (frames : ℕ → List Body) : Type 0 where
  pub centre : HasStateRanges line c y
  pub bodies : (d : ℕ) → All (IsSentInRange line c d) (frames d)
