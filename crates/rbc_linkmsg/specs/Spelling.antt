-- The spelling of a frame: its fields in order, each a number of n bytes, the highest byte first (profile).
use Rattle.std.specs.Int.{cast_unsigned, w32}
use Rattle.std.specs.Prelude.{[], if◌then◌else◌, ◌++◌, ◌+◌, ◌<◌, ◌^◌, ◌∷◌, ◌≡◌, Bool, is_some, List, None, Option, Some}
use Rattle.std.specs.Prelude.{ℕ, ℤ}
use Rattle.byteorder.specs.Endian.{big_bytes}
use Rattle.rbc_linkmsg.specs.declared.kind.FrameKind.{FrameKind}
use Rattle.rbc_linkmsg.specs.declared.kind.FrameKind.TheVariants as kinds
use Rattle.rbc_linkmsg.specs.Kinds.{kind_number}
use Rattle.rbc_spec.specs.Frame.{Announce, AskRight, Body, Cancel, Frame, GiveRight, HasFrameRanges, RefuseRight}
use Rattle.rbc_spec.specs.Frame.{ReturnRight, RouteAsk, RouteInfo, RouteReturn, RouteWithdraw, TakingOver, Yield}
use Rattle.rbc_spec.specs.Frame.{YieldedPlace}
use Rattle.rbc_spec.specs.SectionRuns.{SectionRun}

-- a field: how many bytes it has, and its value
abbrev pub Field : Type 0
Field = ℕ × ℕ

-- the bytes of consecutive fields
unfoldable pub spelled : List Field → List ℕ
spelled [] = []
spelled (f ∷ fields) = big_bytes f.0 f.1 ++ spelled fields

-- its kind
abbrev pub kind_of : Body → FrameKind
kind_of (AskRight t) = kinds.AskRight
kind_of (GiveRight t) = kinds.GiveRight
kind_of (RefuseRight t) = kinds.RefuseRight
kind_of (ReturnRight t) = kinds.ReturnRight
kind_of (RouteAsk t first most) = kinds.RouteAsk
kind_of (RouteInfo t run) = kinds.RouteInfo
kind_of (RouteWithdraw t s) = kinds.RouteWithdraw
kind_of (RouteReturn t run) = kinds.RouteReturn
kind_of (Announce number t track) = kinds.Announce
kind_of (Cancel number t) = kinds.Cancel
kind_of (TakingOver number t) = kinds.TakingOver
kind_of (Yield number t heard has_data is_ended place hand) = kinds.Yield

-- the first section and how many they are
abbrev pub run_fields : SectionRun → List Field
run_fields run = (2, run.first) ∷ (1, run.count) ∷ []

abbrev pub bit : ℕ → Bool → ℕ
bit n b = if b then n else 0

-- the flags of a Yield: its train data are known, its mission is ended, the rear is known
abbrev pub flags : Bool → Bool → Option ℤ → ℕ
flags has_data is_ended rear = bit 1 has_data + bit 2 is_ended + bit 4 (is_some rear)

-- a distance, in two's complement
abbrev pub distance : ℤ → ℕ
distance z = cast_unsigned w32 z

-- the rear, or 0 if it is not known
abbrev pub rear_distance : Option ℤ → ℕ
rear_distance None = 0
rear_distance (Some z) = distance z

-- a place with its flags
abbrev pub place_fields : Bool → Bool → YieldedPlace → List Field
place_fields has_data is_ended place =
    (1, place.track) ∷ (1, flags has_data is_ended place.rear) ∷ (4, place.group) ∷ (4, distance place.front)
    ∷ (4, rear_distance place.rear) ∷ []

-- the fields after the kind: the handover's number if there is one, NID_ENGINE, and the others
abbrev pub body_fields : Body → List Field
body_fields (AskRight t) = (4, t) ∷ []
body_fields (GiveRight t) = (4, t) ∷ []
body_fields (RefuseRight t) = (4, t) ∷ []
body_fields (ReturnRight t) = (4, t) ∷ []
body_fields (RouteAsk t first most) = (4, t) ∷ run_fields (record { first = first; count = most })
body_fields (RouteInfo t run) = (4, t) ∷ run_fields run
body_fields (RouteWithdraw t s) = (4, t) ∷ (2, s) ∷ []
body_fields (RouteReturn t run) = (4, t) ∷ run_fields run
body_fields (Announce number t track) = (4, number) ∷ (4, t) ∷ (1, track) ∷ []
body_fields (Cancel number t) = (4, number) ∷ (4, t) ∷ []
body_fields (TakingOver number t) = (4, number) ∷ (4, t) ∷ []
body_fields (Yield number t heard has_data is_ended place hand) =
    (4, number) ∷ (4, t) ∷ (4, heard) ∷ (place_fields has_data is_ended place ++ run_fields hand)

-- the number on the link, the stamp, the kind, and the body
abbrev pub frame_fields : Frame → List Field
frame_fields f = (4, f.number) ∷ (4, f.stamp) ∷ (1, kind_number (kind_of f.body)) ∷ body_fields f.body

-- the bytes spell the frame, and each value is in its range
pub record Spells (bytes : List ℕ) (f : Frame) : Type 0 where
  pub text : bytes ≡ spelled (frame_fields f)
  pub ranges : HasFrameRanges f

-- each field's value has room in its bytes
abbrev pub AllFit : List Field → Type 0
AllFit [] = Unit {0}
AllFit (f ∷ fields) = (f.1 < 256 ^ f.0) × AllFit fields
