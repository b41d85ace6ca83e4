use Rattle.law_served.proofs.laws.what_is_read_is_in_the_logs.Goals as goal
use Rattle.law_served.proofs.Origins.{served}

pub returns : goal.returns
returns ctx = served
