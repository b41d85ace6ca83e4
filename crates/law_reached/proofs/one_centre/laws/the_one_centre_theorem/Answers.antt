use Rattle.law_reached.proofs.one_centre.laws.the_one_centre_theorem.Goals as goal
use Rattle.law_reached.proofs.OneCentreLemmas.Whole.{run_is}

pub returns : goal.returns
returns c line d events answers w ok one is = run_is line ok d one events answers w is
