use Rattle.law_promises.proofs.laws.what_is_told_is_safe.Goals as goal
use Rattle.law_promises.proofs.Pieces.{run_safe}

pub returns : goal.returns
returns c line events answers v ok h = run_safe line ok events answers v h
