use Rattle.law_invariants.proofs.no_loss.laws.a_sound_flow_has_each_right_once.Goals as goal
use Rattle.law_invariants.proofs.NoLossLemmas.Looked.{right_once}

pub returns : goal.returns
returns ctx line w c sound centre = right_once line w c sound centre
