use Rattle.law_refinement.proofs.handovers.laws.an_announcement_leads_on.Goals as goal
use Rattle.law_refinement.proofs.HandoversLemmas.Announced.{announce_leads}

pub returns : goal.returns
returns o line w v a c h t track number stamp ok sound sees from to head =
    announce_leads line w v a c h t number stamp ok sound sees from to track head
