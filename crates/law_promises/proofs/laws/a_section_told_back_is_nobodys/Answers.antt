use Rattle.std.proofs.Common.{refl}
use Rattle.law_promises.proofs.laws.a_section_told_back_is_nobodys.Goals as goal
use Rattle.law_promises.proofs.Promised.{done_back, told_back}
use Rattle.rbc_spec.specs.World.{Unset}

pub returns-clause-told : goal.returns-clause-told
returns-clause-told ctx line events answers w new event o c s ok before is home tells =
    told_back line ok w new events answers event o c s before is home tells

pub returns-clause-done : goal.returns-clause-done
returns-clause-done ctx line events answers w new o c s ok before is home tells =
    done_back line ok w new events answers (Unset c s) o c s before is home refl tells
