use Rattle.law_invariants.proofs.no_loss.laws.an_exact_act_loses_nothing.Goals as goal
use Rattle.law_invariants.proofs.NoLossLemmas.Worlds.{exact_alone, exact_head}

pub returns-clause-by_itself : goal.returns-clause-by_itself
returns-clause-by_itself ctx line w c y frames counted centre exact whole =
    exact_alone line w c y frames counted centre exact whole

pub returns-clause-at_head : goal.returns-clause-at_head
returns-clause-at_head ctx line w a c f y frames counted from centre takes exact whole =
    exact_head line w a c f y frames counted from centre takes exact whole
