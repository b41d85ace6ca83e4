use Rattle.law_served.proofs.laws.what_is_written_is_of_the_log.Goals as goal
use Rattle.law_served.proofs.Written.{written}

pub returns : goal.returns
returns ctx = written
