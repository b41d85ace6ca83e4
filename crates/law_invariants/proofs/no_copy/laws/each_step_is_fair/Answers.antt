use Rattle.law_invariants.proofs.no_copy.laws.each_step_is_fair.Goals as goal
use Rattle.law_invariants.proofs.NoCopyLemmas.Steps.{step_is_fair}

pub returns : goal.returns
returns ctx line c k event ok sound = step_is_fair line c k event ok sound
