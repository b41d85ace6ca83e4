use Rattle.law_refinement.proofs.missions.laws.an_own_step_and_what_follows.Goals as goal
use Rattle.law_refinement.proofs.MissionsLemmas.Asked.{whole_is_heard}

pub returns : goal.returns
returns ctx = whole_is_heard
