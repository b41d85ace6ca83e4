use Rattle.law_refinement.proofs.missions.laws.a_granted_shortening_is_an_own_step.Goals as goal
use Rattle.law_refinement.proofs.MissionsLemmas.Asked.{granted_is_own, granted_is_whole}

pub returns-clause-own : goal.returns-clause-own
returns-clause-own ctx line c t_train t stamp position ok = granted_is_own line ok c t_train t position stamp

pub returns-clause-whole : goal.returns-clause-whole
returns-clause-whole ctx line c t_train t stamp position = granted_is_whole line c t_train t position stamp
