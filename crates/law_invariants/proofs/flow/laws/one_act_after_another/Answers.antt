use Rattle.law_invariants.proofs.flow.laws.one_act_after_another.Goals as goal
use Rattle.law_invariants.proofs.FlowLemmas.Shown.{leads_rest, leads_then}

pub returns-clause-none : goal.returns-clause-none
returns-clause-none ctx line w c k v sound shows = leads_rest line w c k v sound shows

pub returns-clause-two : goal.returns-clause-two
returns-clause-two ctx line w c k v first second one two = leads_then line w c k v first second one two
