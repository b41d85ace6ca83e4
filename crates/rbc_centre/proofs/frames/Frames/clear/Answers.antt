use Rattle.std.proofs.Common.{ap}
use Rattle.rbc_centre.proofs.frames.Frames.clear.Goals as goal
use Rattle.rbc_centre.specs.Listed.{frames_in, list_of}
use Rattle.rbc_centre.specs.Sent.{frames_to}

pub returns-in-Some : goal.returns-in-Some
unfolding frames_to
returns-in-Some c = ap frames_in c.clear.ensures.items

pub returns-in-None : goal.returns-in-None
unfolding frames_to
returns-in-None c = ap frames_in (ap list_of c.in-None.is)
