use Rattle.law_refinement.proofs.sessions.laws.train_data_are_heard.Goals as goal
use Rattle.law_refinement.proofs.SessionsLemmas.Data.{data_heard}

pub returns : goal.returns
returns ctx position line w v c t_train t stamp ok sound sees at heard =
    data_heard line w v sound sees c t_train t stamp at position heard
