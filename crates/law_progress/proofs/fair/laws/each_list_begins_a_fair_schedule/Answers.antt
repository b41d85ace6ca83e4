use Rattle.law_progress.proofs.fair.laws.each_list_begins_a_fair_schedule.Goals as goal
use Rattle.law_progress.proofs.FairLemmas.InTurn.{begins}

pub returns : goal.returns
returns ctx line events ok = let it = begins line events in (it.0, it.1, it.3 ok, it.2)
