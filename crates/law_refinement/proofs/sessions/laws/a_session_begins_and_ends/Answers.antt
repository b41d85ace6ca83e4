use Rattle.law_refinement.proofs.sessions.laws.a_session_begins_and_ends.Goals as goal
use Rattle.law_refinement.proofs.SessionsLemmas.Ends.{begins, ends}

pub returns-clause-begins : goal.returns-clause-begins
returns-clause-begins ctx line w v c t_train t stamp ok sound sees at heard =
    begins line w v sound sees c t at t_train stamp

pub returns-clause-ends : goal.returns-clause-ends
returns-clause-ends ctx line w v c t_train t stamp ok sound sees at heard =
    ends line w v sound sees c t at t_train stamp
