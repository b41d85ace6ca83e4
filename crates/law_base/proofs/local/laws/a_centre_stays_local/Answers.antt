use Rattle.law_base.proofs.local.laws.a_centre_stays_local.Goals as goal
use Rattle.law_base.proofs.LocalLemmas.Steps.{set_step_stays, train_stays, unset_step_stays}

pub returns-clause-train : goal.returns-clause-train
returns-clause-train o line c d k m ordered one local = train_stays line c ordered d one k m local

pub returns-clause-set : goal.returns-clause-set
returns-clause-set o line c k s local = set_step_stays line c k s local

pub returns-clause-unset : goal.returns-clause-unset
returns-clause-unset o line c k s local = unset_step_stays line c k s local
