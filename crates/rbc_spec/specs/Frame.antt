-- Frames between centres. The names Announcement, Cancellation, Taking Over Responsibility and Route Related
-- Information are those of the RBC/RBC interface (SUBSET-039). The layout of frames and the rule of rights are the
-- profile's.
use Rattle.std.specs.Prelude.{ℕ, ◌+◌, ◌≤◌, Bool, true, ◌&&◌, IsTrue, Option, Some, None, ℤ, pos, negsuc, ◌-ℤ◌, int_le}
use Rattle.std.specs.Option.{option_map_or}
use Rattle.rbc_spec.specs.SectionRuns.{SectionRun, most_in_hand}
use Rattle.rbc_spec.specs.Place.{Place}

-- The place that a Yield carries. Unlike in a `Place`, the safe front end may be before the start of the track.
-- Rules: HO-13
pub record YieldedPlace : Type 0 where
  pub track : ℕ
  pub group : ℕ
  pub front : ℤ
  pub rear : Option ℤ

-- a place, as a Yield carries it
abbrev pub yielded_place : Place → YieldedPlace
yielded_place place = record { track = place.track; group = place.group; front = pos place.front; rear = place.rear }

-- the carried place with this front; `None` if the front is before the start of the track
abbrev pub place_with_front : YieldedPlace → ℤ → Option Place
place_with_front place (pos front) =
    Some (record { track = place.track; group = place.group; front = front; rear = place.rear })
place_with_front place (negsuc n) = None

-- Rules: HO-13
abbrev pub carried_place : YieldedPlace → Option Place
carried_place place = place_with_front place place.front

-- Rules: LK-1
pub data Body : Type 0 where
  AskRight : (t : ℕ) → Body  -- asks the registrar for the right to supervise t
  GiveRight : (t : ℕ) → Body  -- gives the right
  RefuseRight : (t : ℕ) → Body  -- refuses the right, since it is not here
  ReturnRight : (t : ℕ) → Body  -- returns the right to the registrar
  RouteAsk : (t first most : ℕ) → Body  -- asks for sections from `first` on, at most `most`
  RouteInfo : (t : ℕ) (run : SectionRun) → Body  -- lends the sections of the run
  RouteWithdraw : (t s : ℕ) → Body  -- the interlocking wishes the lent section s back
  RouteReturn : (t : ℕ) (run : SectionRun) → Body  -- returns the lent sections of the run
  Announce : (number t track : ℕ) → Body  -- announces a handover
  Cancel : (number t : ℕ) → Body  -- cancels a handover
  TakingOver : (number t : ℕ) → Body  -- the train has reported in the area of the accepting centre
  -- the supervision is handed over
  Yield : (number t heard : ℕ) (has_data is_ended : Bool) (place : YieldedPlace) (hand : SectionRun) → Body

pub record Frame : Type 0 where
  pub number : ℕ
  pub stamp : ℕ
  pub body : Body

-- ## The ranges of the fields of a frame (profile)

-- NID_ENGINE (7.5)
abbrev pub IsEngine : ℕ → Type 0
IsEngine t = t ≤ 16777215

-- the number of a handover: counted from 1, in four bytes
abbrev pub IsHandoverNumber : ℕ → Type 0
IsHandoverNumber number = (1 ≤ number) × (number ≤ 4294967295)

-- at least `least` and at most `most` sections, all with numbers below 512
pub record HasRunRange (least most : ℕ) (run : SectionRun) : Type 0 where
  pub first : run.first ≤ 511
  pub count : (least ≤ run.count) × (run.count ≤ most)
  pub last : run.first + run.count ≤ 512

-- a distance in decimetres, positive or negative, in four bytes
abbrev pub is_short_distance : ℤ → Bool
is_short_distance distance = int_le (pos 0 -ℤ pos 2147483648) distance && int_le distance (pos 2147483647)

pub record HasPlaceRange (place : YieldedPlace) : Type 0 where
  pub track : place.track ≤ 3
  pub group : place.group ≤ 16777214
  pub front : IsTrue (is_short_distance place.front)
  pub rear : IsTrue (option_map_or is_short_distance place.rear true)

-- `most` of a RouteAsk is limited so that it asks for no section above 511. A RouteReturn names at most 63 sections: a
-- hand of 32 and a pool of 31.
abbrev pub HasBodyRange : Body → Type 0
HasBodyRange (AskRight t) = IsEngine t
HasBodyRange (GiveRight t) = IsEngine t
HasBodyRange (RefuseRight t) = IsEngine t
HasBodyRange (ReturnRight t) = IsEngine t
HasBodyRange (RouteAsk t first most) = IsEngine t × HasRunRange 1 31 (record { first = first; count = most })
HasBodyRange (RouteInfo t run) = IsEngine t × HasRunRange 0 31 run
HasBodyRange (RouteWithdraw t s) = IsEngine t × (s ≤ 511)
HasBodyRange (RouteReturn t run) = IsEngine t × HasRunRange 1 63 run
HasBodyRange (Announce number t track) = IsHandoverNumber number × IsEngine t × (track ≤ 3)
HasBodyRange (Cancel number t) = IsHandoverNumber number × IsEngine t
HasBodyRange (TakingOver number t) = IsHandoverNumber number × IsEngine t
HasBodyRange (Yield number t heard has_data is_ended place hand) =
    IsHandoverNumber number × IsEngine t × (heard ≤ 4294967294) × HasPlaceRange place × HasRunRange 1 most_in_hand hand

-- the greatest stamp of a step
abbrev pub last_stamp : ℕ
last_stamp = 1073741823

-- a link carries at most 65 536 frames, numbered from 1; each has the stamp of its step
-- Rules: LK-1
pub record HasFrameRanges (f : Frame) : Type 0 where
  pub number : (1 ≤ f.number) × (f.number ≤ 65536)
  pub stamp : (1 ≤ f.stamp) × (f.stamp ≤ last_stamp)
  pub body : HasBodyRange f.body
