-- The frames that a step sent.
use Rattle.std.specs.Prelude.{List, ℕ}
use Rattle.rbc_centre.specs.declared.frames.Frames.{Frames}
use Rattle.rbc_centre.specs.Listed.{frames_in, list_of}
use Rattle.rbc_spec.specs.Frame.{Frame}

-- the frames to each centre
unfoldable pub frames_to : Frames → ℕ → List Frame
frames_to f d = frames_in (list_of f.list) d
