use Rattle.law_refinement.proofs.missions.laws.a_request_is_an_own_step.Goals as goal
use Rattle.law_refinement.proofs.MissionsLemmas.Asked.{request_in_parts, request_is_own}

pub returns-clause-own : goal.returns-clause-own
returns-clause-own ctx line c t_train t position ok = request_is_own line ok c t_train t position

pub returns-clause-parts : goal.returns-clause-parts
returns-clause-parts ctx line c t_train t position = request_in_parts line c t_train t position
