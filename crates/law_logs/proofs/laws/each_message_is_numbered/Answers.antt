use Rattle.law_logs.proofs.laws.each_message_is_numbered.Goals as goal
use Rattle.law_logs.proofs.Numbered.{numbered}

pub returns : goal.returns
returns ctx line c t entries last replays = numbered line c t entries last replays
