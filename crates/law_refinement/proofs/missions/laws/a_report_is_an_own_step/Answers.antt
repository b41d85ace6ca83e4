use Rattle.law_refinement.proofs.missions.laws.a_report_is_an_own_step.Goals as goal
use Rattle.law_refinement.proofs.MissionsLemmas.Asked.{listens, report_is_own, report_is_whole}

pub returns-clause-own : goal.returns-clause-own
returns-clause-own ctx line c t_train t position ok = report_is_own line ok c t_train t position

pub returns-clause-whole : goal.returns-clause-whole
returns-clause-whole ctx line c t_train t position = report_is_whole line c t_train t position

pub returns-clause-listens : goal.returns-clause-listens
returns-clause-listens ctx line w v c t_train t stamp position ok sound sees to none heard =
    listens line ok w sound v sees c to t_train t stamp position none heard
