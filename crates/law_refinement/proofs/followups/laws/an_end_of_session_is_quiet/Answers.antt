use Rattle.law_refinement.proofs.followups.laws.an_end_of_session_is_quiet.Goals as goal
use Rattle.law_refinement.proofs.FollowupsLemmas.EndOrders.{end_leads}

pub returns : goal.returns
returns o line w c t k v = end_leads line w c t k v
