use Rattle.law_invariants.proofs.no_loss.laws.no_step_loses_a_right.Goals as goal
use Rattle.law_invariants.proofs.NoLossLemmas.Rights.{no_right_lost}

pub returns : goal.returns
returns ctx line c t k event ok sound order due = no_right_lost line ok c t k event sound order due
