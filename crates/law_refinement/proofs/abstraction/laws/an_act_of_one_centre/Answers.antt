use Rattle.law_refinement.proofs.abstraction.laws.an_act_of_one_centre.Goals as goal
use Rattle.law_refinement.proofs.AbstractionLemmas.Shows.{at_head, by_itself}

pub returns-clause-by_itself : goal.returns-clause-by_itself
returns-clause-by_itself ctx = by_itself

pub returns-clause-at_head : goal.returns-clause-at_head
returns-clause-at_head ctx = at_head
