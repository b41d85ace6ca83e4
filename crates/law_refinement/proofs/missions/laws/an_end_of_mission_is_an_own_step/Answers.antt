use Rattle.law_refinement.proofs.missions.laws.an_end_of_mission_is_an_own_step.Goals as goal
use Rattle.law_refinement.proofs.MissionsLemmas.Asked.{end_is_own, end_is_whole}

pub returns-clause-own : goal.returns-clause-own
returns-clause-own ctx line c t_train t position ok = end_is_own line ok c t_train t position

pub returns-clause-whole : goal.returns-clause-whole
returns-clause-whole ctx line c t_train t position = end_is_whole line c t_train t position
