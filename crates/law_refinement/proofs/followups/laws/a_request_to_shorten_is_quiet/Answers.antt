use Rattle.law_refinement.proofs.followups.laws.a_request_to_shorten_is_quiet.Goals as goal
use Rattle.law_refinement.proofs.FollowupsLemmas.Proposals.{propose_leads}

pub returns : goal.returns
returns o line w c t s k v = propose_leads line w c t s k v
