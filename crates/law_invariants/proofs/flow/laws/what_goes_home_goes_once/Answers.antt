use Rattle.law_invariants.proofs.flow.laws.what_goes_home_goes_once.Goals as goal
use Rattle.law_invariants.proofs.FlowLemmas.Taken.{returned_once}

pub returns : goal.returns
returns ctx line c t track u s r k ordered = returned_once line ordered c t track r k u s
