use Rattle.law_base.proofs.rules.steps.a_step_sends_in_order.Goals as goal
use Rattle.law_base.proofs.RulesLemmas.SentTaken.{in_order}

pub returns : goal.returns
returns a line c d k event h few = in_order d line c k event h few
