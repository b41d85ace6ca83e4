use Rattle.std.proofs.Common.{refl}
use Rattle.rbc_centre.proofs.frames.Frames.nothing.Goals as goal
use Rattle.rbc_centre.specs.Sent.{frames_to}

pub returns : goal.returns
unfolding frames_to
returns c = refl
