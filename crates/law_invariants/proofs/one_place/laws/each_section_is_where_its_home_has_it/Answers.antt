use Rattle.law_invariants.proofs.one_place.laws.each_section_is_where_its_home_has_it.Goals as goal
use Rattle.law_invariants.proofs.OnePlaceLemmas.Where.{where_home_has_it}

pub returns : goal.returns
returns ctx line events answers w c s ok is home = where_home_has_it line ok events answers w is c s home
