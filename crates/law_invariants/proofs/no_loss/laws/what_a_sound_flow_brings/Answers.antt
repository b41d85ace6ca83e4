use Rattle.law_invariants.proofs.no_loss.laws.what_a_sound_flow_brings.Goals as goal
use Rattle.law_invariants.proofs.NoLossLemmas.Looked.{looked_for}

pub returns : goal.returns
returns ctx line w a c f ok sound asked from to takes = looked_for line ok w sound asked a c from to f takes
