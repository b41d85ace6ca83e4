use Rattle.rbc_spec.proofs.laws.a_home_is_a_run.Goals as goal
use Rattle.rbc_spec.proofs.Places.{homes_run}

pub returns : goal.returns
returns c = homes_run
