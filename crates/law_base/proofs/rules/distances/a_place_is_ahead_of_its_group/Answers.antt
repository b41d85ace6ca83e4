use Rattle.law_base.proofs.rules.distances.a_place_is_ahead_of_its_group.Goals as goal
use Rattle.law_base.proofs.RulesLemmas.Places.{extent_ahead}

pub returns : goal.returns
returns c = extent_ahead
