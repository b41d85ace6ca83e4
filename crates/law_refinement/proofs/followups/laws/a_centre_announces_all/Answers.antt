use Rattle.law_refinement.proofs.followups.laws.a_centre_announces_all.Goals as goal
use Rattle.law_refinement.proofs.FollowupsLemmas.AnnouncedSteps.{begins_announced, step_announces}

pub returns-clause-begins : goal.returns-clause-begins
returns-clause-begins o line c ok = begins_announced line ok c

pub returns-clause-step : goal.returns-clause-step
returns-clause-step o line c k event ok sound old = step_announces line ok c k event sound old
