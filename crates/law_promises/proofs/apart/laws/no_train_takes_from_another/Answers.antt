use Rattle.law_promises.proofs.apart.laws.no_train_takes_from_another.Goals as goal
use Rattle.law_promises.proofs.ApartLemmas.Messages.{isolates}

pub returns : goal.returns
returns c = isolates
