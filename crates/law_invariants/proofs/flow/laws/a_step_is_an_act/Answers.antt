use Rattle.law_invariants.proofs.flow.laws.a_step_is_an_act.Goals as goal
use Rattle.law_invariants.proofs.FlowLemmas.Steps.{at_head, by_itself}

pub returns-clause-by_itself : goal.returns-clause-by_itself
returns-clause-by_itself ctx w c stamp k e trains same still = by_itself w c stamp k e trains same still

pub returns-clause-at_head : goal.returns-clause-at_head
returns-clause-at_head ctx w c stamp k e trains a same one_more = at_head w c stamp k e trains same a one_more
