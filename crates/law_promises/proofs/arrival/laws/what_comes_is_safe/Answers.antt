use Rattle.law_promises.proofs.arrival.laws.what_comes_is_safe.Goals as goal
use Rattle.law_promises.proofs.ArrivalLemmas.Ends.{come_safe}

pub returns : goal.returns
returns c line events spoken came safe h = come_safe line events spoken came safe h
