use Rattle.law_invariants.proofs.flow.laws.the_next_centre_is_a_neighbour.Goals as goal
use Rattle.law_invariants.proofs.FlowLemmas.Neighbours.{neighbours}

pub returns : goal.returns
returns c line ok = neighbours line ok
