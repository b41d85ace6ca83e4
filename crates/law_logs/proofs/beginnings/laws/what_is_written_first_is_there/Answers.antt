use Rattle.law_logs.proofs.beginnings.laws.what_is_written_first_is_there.Goals as goal
use Rattle.law_logs.proofs.BeginningsLemmas.Written.{written_first}

pub returns : goal.returns
returns c = λ written n h. written_first written n h
