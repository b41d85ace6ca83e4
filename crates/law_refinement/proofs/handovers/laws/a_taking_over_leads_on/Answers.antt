use Rattle.law_refinement.proofs.handovers.laws.a_taking_over_leads_on.Goals as goal
use Rattle.law_refinement.proofs.HandoversLemmas.TakenUp.{over_body_leads}

pub returns : goal.returns
returns o line w v a c h t number stamp ok sound sees from to head =
    over_body_leads line w v a c h t number stamp ok sound sees from to head
