use Rattle.law_invariants.proofs.no_stray.laws.each_yield_is_taken.Goals as goal
use Rattle.law_invariants.proofs.NoStrayLemmas.Reached.{taken_over}

pub returns : goal.returns
returns ctx line events answers w new answer a b at number t heard has_data is_ended carried hand f ok is sent next
    hands done = taken_over line ok events answers w is a b at f sent next t heard number has_data is_ended carried
    hand hands answer new done
