use Rattle.law_invariants.proofs.flow.laws.a_right_is_admitted.Goals as goal
use Rattle.law_invariants.proofs.FlowLemmas.Admitted.{leads}

pub returns : goal.returns
returns ctx line w v a c t number place sound sees from to takes waits asked =
    leads line w sound v sees a c t number place from to takes waits asked
