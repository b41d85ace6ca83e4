use Rattle.rbc_train.proofs.laws.a_section_is_taken_back.Goals as goal
use Rattle.rbc_train.proofs.Tellings.{asked_of_taken, shut_at_once}

pub returns-clause-unused : goal.returns-clause-unused
returns-clause-unused o line c s k home unused = shut_at_once line c s k home unused

pub returns-clause-taken : goal.returns-clause-taken
returns-clause-taken o line c s t k reply home taken is = asked_of_taken line c s t k reply home taken is
