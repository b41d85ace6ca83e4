-- The frames sent on a link.
use Rattle.std.specs.Prelude.{if◌then◌else◌, ◌+◌, ◌-◌, ◌==◌, ◌≡◌, ◌≤◌, length, List, map, None, Option, slice_get, Some}
use Rattle.std.specs.Prelude.{ℕ}
use Rattle.rbc_link.specs.declared.sent.Sent.{Sent}
use Rattle.rbc_spec.specs.Frame.{Body, Frame, last_stamp}

-- the frames in order, and how many further ones have room
pub record Outgoing (B : Type 0) : Type 0 where
  pub frames : List (Sent B)
  pub room : ℕ

abbrev pub sent_as : {B : Type 0} → ℕ → ℕ → B → Sent B
sent_as number stamp body = record { number = number; stamp = stamp; body = body }

-- the frame of this number, from 1
abbrev pub frame_number : {B : Type 0} → List (Sent B) → ℕ → Option (Sent B)
frame_number frames number = if number == 0 then None else slice_get frames (number - 1)

-- the frame has this number, and the stamp of a step
pub record IsNumber {B : Type 0} (n : ℕ) (f : Sent B) : Type 0 where
  pub number : f.number ≡ n
  pub stamp : (1 ≤ f.stamp) × (f.stamp ≤ last_stamp)

-- the frames of a link: as many as a link carries, each with its number
pub record AreFrames {B : Type 0} (frames : List (Sent B)) : Type 0 where
  pub count : length frames ≤ 65536
  pub each : (i : ℕ) (f : Sent B) → slice_get frames i ≡ Some f → IsNumber (i + 1) f

-- a frame as one of the rules, with this meaning of its body
abbrev pub frame_by : {B : Type 0} → (B → Body) → Sent B → Frame
frame_by meaning f = record { number = f.number; stamp = f.stamp; body = meaning f.body }

abbrev pub frames_by : {B : Type 0} → (B → Body) → List (Sent B) → List Frame
frames_by meaning frames = map (frame_by meaning) frames
