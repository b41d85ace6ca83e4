use Rattle.law_invariants.proofs.one_place.laws.each_thing_is_in_one_place.Goals as goal
use Rattle.law_invariants.proofs.OnePlaceLemmas.Where.{in_one_place}

pub returns : goal.returns
returns ctx line events answers w ok is = in_one_place line ok events answers w is
