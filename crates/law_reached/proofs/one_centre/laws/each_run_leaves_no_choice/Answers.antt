use Rattle.law_reached.proofs.one_centre.laws.each_run_leaves_no_choice.Goals as goal
use Rattle.law_reached.proofs.OneCentreLemmas.Whole.{run_read}

pub returns : goal.returns
returns c line d events answers w ok one is = run_read line ok d one events answers w is
