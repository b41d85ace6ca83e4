use Rattle.law_invariants.proofs.flow.laws.a_flow_that_loses_nothing_has_one_place.Goals as goal
use Rattle.law_invariants.proofs.FlowLemmas.OnePlace.{has_one_place}

pub returns : goal.returns
returns ctx line w ok sound whole = has_one_place line ok w sound whole
