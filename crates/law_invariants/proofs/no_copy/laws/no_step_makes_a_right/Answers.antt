use Rattle.std.proofs.Common.{refl}
use Rattle.law_invariants.proofs.no_copy.laws.no_step_makes_a_right.Goals as goal
use Rattle.law_invariants.proofs.NoCopyLemmas.Rights.{rights_counted, rights_ready, rights_tally}
use Rattle.law_invariants.proofs.NoCopyLemmas.Steps.{step_fair}

pub returns : goal.returns
returns ctx line c t k event sound = step_fair line c (rights_tally line c t) (rights_counted line c t) k event sound
    (rights_ready line c t k) refl
