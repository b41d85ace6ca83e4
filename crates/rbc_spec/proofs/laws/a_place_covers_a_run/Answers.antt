use Rattle.rbc_spec.proofs.laws.a_place_covers_a_run.Goals as goal
use Rattle.rbc_spec.proofs.Places.{covers_run}

pub returns : goal.returns
returns c = covers_run
