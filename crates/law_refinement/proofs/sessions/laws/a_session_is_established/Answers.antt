use Rattle.law_refinement.proofs.sessions.laws.a_session_is_established.Goals as goal
use Rattle.law_refinement.proofs.SessionsLemmas.Data.{established}

pub returns : goal.returns
returns ctx line w v c t_train t stamp ok sound sees at heard = established line w v sound sees c t_train t stamp at
