use Rattle.law_refinement.proofs.abstraction.laws.a_yield_hands_over.Goals as goal
use Rattle.law_refinement.proofs.AbstractionLemmas.Hands.{yield_hands_over}

pub returns : goal.returns
returns ctx = yield_hands_over
