use Rattle.law_refinement.proofs.handovers.laws.a_yield_leads_on.Goals as goal
use Rattle.law_refinement.proofs.HandoversLemmas.Yielded.{yield_leads}

pub returns : goal.returns
returns o line w v a c h t heard number stamp has_data is_ended carried hand ok sound sees from to head =
    yield_leads line w v a c h t heard number stamp has_data is_ended carried hand ok sound sees from to head
