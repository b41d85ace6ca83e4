use Rattle.law_promises.proofs.laws.a_section_leaves_a_hand_only_by_its_train.Goals as goal
use Rattle.law_promises.proofs.Promised.{leaves_so}

pub returns : goal.returns
returns ctx line events answers w new event answer t s ok before is given not_given =
    leaves_so line ok w new events answers event answer before is t s given not_given
