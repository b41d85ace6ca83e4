use Rattle.law_refinement.proofs.InOrderSteps.{step_in_order}
use Rattle.law_refinement.proofs.laws.each_step_tells_in_order.Goals as goal

pub returns : goal.returns
returns ctx line c k event = step_in_order line c event k
