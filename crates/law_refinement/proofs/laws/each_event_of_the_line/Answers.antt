use Rattle.law_refinement.proofs.laws.each_event_of_the_line.Goals as goal
use Rattle.law_refinement.proofs.Promises.{every_event}

pub returns : goal.returns
returns ctx = every_event
