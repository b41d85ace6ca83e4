-- The numbers of frames: each is its place among those that were sent on its link, counted from 1.
use Rattle.std.specs.Prelude.{◌≡◌, ℕ, ◌+◌, Some, slice_get}
use Rattle.rbc_spec.specs.Maps.{put}
use Rattle.rbc_spec.specs.Frame.{Frame}
use Rattle.rbc_spec.specs.Outcome.{Taken, Next}
use Rattle.rbc_spec.specs.Centre.{Centre}
use Rattle.rbc_spec.specs.World.{World}

-- the frames that a centre has sent to each other are numbered in order
pub record HasNumbers (k : Centre) : Type 0 where
  pub each : (d i : ℕ) (f : Frame) → slice_get (k.sent d) i ≡ Some f → f.number ≡ i + 1

-- at each centre of the world
pub record IsNumbered (w : World) : Type 0 where
  pub centres : (c : ℕ) → HasNumbers (w.at c)

-- how many frames the centre has taken from each, after a frame from d with this answer of the link: only the next
-- frame counts
abbrev pub taken_after : ℕ → Frame → Taken → Centre → ℕ → ℕ
taken_after d f Next k = put k.taken d f.number
taken_after d f answer k = k.taken
