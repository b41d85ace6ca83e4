use Rattle.law_progress.proofs.fair.laws.each_fair_schedule_comes_to_rest.Goals as goal
use Rattle.law_progress.proofs.FairLemmas.Fair.{comes_to_rest}

pub returns : goal.returns
returns ctx line schedule ok ranges fair ends = comes_to_rest line ok schedule ranges fair ends
