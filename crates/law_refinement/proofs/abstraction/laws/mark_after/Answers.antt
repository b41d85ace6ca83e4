use Rattle.law_refinement.proofs.abstraction.laws.mark_after.Goals as goal
use Rattle.law_refinement.proofs.AbstractionLemmas.Hands.{mark_shown, mark_stays}

pub returns-clause-shown : goal.returns-clause-shown
returns-clause-shown ctx = mark_shown

pub returns-clause-stays : goal.returns-clause-stays
returns-clause-stays ctx = mark_stays
