use Rattle.std.proofs.Common.{refl}
use Rattle.rbc_world.proofs.event.Answer.clear.Goals as goal

pub returns-clause-outcome : goal.returns-clause-outcome
returns-clause-outcome c = (c.nothing.result, refl)
