use Rattle.law_refinement.proofs.followups.laws.an_ended_mission_is_shown.Goals as goal
use Rattle.law_refinement.proofs.FollowupsLemmas.Keeps.{ended_so}

pub returns : goal.returns
returns o line w c t m k v = ended_so line w c t m k v
