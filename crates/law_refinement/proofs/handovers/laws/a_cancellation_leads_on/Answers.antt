use Rattle.law_refinement.proofs.handovers.laws.a_cancellation_leads_on.Goals as goal
use Rattle.law_refinement.proofs.HandoversLemmas.Announced.{cancel_leads}

pub returns : goal.returns
returns o line w v a c h t number stamp ok sound sees from to head =
    cancel_leads line w v a c h t number stamp ok sound sees from to head
