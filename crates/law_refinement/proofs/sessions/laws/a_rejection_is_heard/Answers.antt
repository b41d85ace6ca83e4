use Rattle.law_refinement.proofs.sessions.laws.a_rejection_is_heard.Goals as goal
use Rattle.law_refinement.proofs.SessionsLemmas.Data.{rejected}

pub returns : goal.returns
returns ctx asked position line w v c t_train t stamp ok sound sees at heard =
    rejected line w v sound sees c t_train t stamp at asked position heard
