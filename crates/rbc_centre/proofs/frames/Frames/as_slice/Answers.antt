use Rattle.std.proofs.Common.{◌∙◌, ap, sym}
use Rattle.rbc_centre.proofs.frames.Frames.as_slice.Goals as goal
use Rattle.rbc_centre.specs.Listed.{frames_in, list_of}
use Rattle.rbc_centre.specs.Sent.{frames_to}

pub returns-in-Some-clause-value : goal.returns-in-Some-clause-value
unfolding frames_to
returns-in-Some-clause-value c = ap frames_in (c.as_slice.ensures.value ∙ sym (ap list_of c.in-Some.is))

pub returns-in-None-clause-value : goal.returns-in-None-clause-value
unfolding frames_to
returns-in-None-clause-value c = ap frames_in (sym (ap list_of c.in-None.is))
