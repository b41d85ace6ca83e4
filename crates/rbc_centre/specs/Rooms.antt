-- The room for the frames of one step.
use Rattle.std.specs.Prelude.{◌≤◌}
use Rattle.std.specs.Vec.{vec_capacity}
use Rattle.rbc_centre.specs.declared.frame_room.FrameRoom.{FrameRoom}

-- there is room for as many as a step sends
abbrev pub HasFrameRoom : FrameRoom → Type 0
HasFrameRoom room = 32 ≤ vec_capacity room.spare
