use Rattle.rbc_spec.proofs.laws.what_stands_is_safe.Goals as goal
use Rattle.rbc_spec.proofs.Safe.{safe}

pub returns : goal.returns
returns c = safe
