use Rattle.law_logs.proofs.beginnings.laws.one_log_of_the_events.Goals as goal
use Rattle.law_logs.proofs.BeginningsLemmas.Written.{made_again}
use Rattle.rbc_spec.specs.Centre.{beginning}

pub returns : goal.returns
returns c = λ line d n log again last end h g same. made_again line d (beginning line d) n log again last end h g same
