use Rattle.rbc_linkmsg.proofs.Frames.{one_frame_of}
use Rattle.rbc_linkmsg.proofs.laws.one_frame.Goals as goal

pub returns : goal.returns
returns c = one_frame_of
