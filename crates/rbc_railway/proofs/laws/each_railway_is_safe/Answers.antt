use Rattle.rbc_railway.proofs.laws.each_railway_is_safe.Goals as goal
use Rattle.rbc_railway.proofs.Safe.{is_safe}

pub returns : goal.returns
returns c = is_safe _ c.known.ensures.theorem c.known.ensures.line
