use Rattle.law_logs.proofs.laws.each_step_is_stamped.Goals as goal
use Rattle.law_logs.proofs.Sorted.{stamped}

pub returns : goal.returns
returns ctx line c event k new outcome is = stamped line c event k new outcome is
