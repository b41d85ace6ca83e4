use Rattle.law_reached.proofs.one_centre.laws.each_event_leaves_no_choice.Goals as goal
use Rattle.law_reached.proofs.OneCentreLemmas.Whole.{step_read}

pub returns : goal.returns
returns c line d w new event answer ok one meets local is = step_read line ok d one w new event answer meets local is
