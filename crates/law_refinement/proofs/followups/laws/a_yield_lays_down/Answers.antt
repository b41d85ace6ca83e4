use Rattle.law_refinement.proofs.followups.laws.a_yield_lays_down.Goals as goal
use Rattle.law_refinement.proofs.FollowupsLemmas.Laying.{yields_so}

pub returns : goal.returns
returns o line w c a number t k v = yields_so line w c a number t k v
