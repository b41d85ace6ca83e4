use Rattle.law_refinement.proofs.sessions.laws.a_start_is_answered.Goals as goal
use Rattle.law_refinement.proofs.SessionsLemmas.Starts.{starts}

pub returns : goal.returns
returns ctx is_valid position line w v c t_train t stamp ok sound sees at heard =
    starts line w v sound sees c t_train t stamp at is_valid position heard
