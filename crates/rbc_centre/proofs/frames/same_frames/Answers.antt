use Rattle.std.proofs.lemmas.Slice.Eq.{slice_eq-Decides}
use Rattle.rbc_centre.proofs.frames.same_frames.Goals as goal
use Rattle.rbc_centre.proofs.SameFrames as same

pub returns : goal.returns
returns c = slice_eq-Decides same.same_frames c.args.frames.now c.args.others.now c.eq.result c.eq.ensures
