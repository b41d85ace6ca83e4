use Rattle.rbc_train.proofs.laws.a_section_is_released.Goals as goal
use Rattle.rbc_train.proofs.Tellings.{kept_in_use, opened_at_once}

pub returns-clause-unused : goal.returns-clause-unused
returns-clause-unused o line c s k home unused = opened_at_once line c s k home unused

pub returns-clause-used : goal.returns-clause-used
returns-clause-used o line c s k home used = kept_in_use line c s k home used
