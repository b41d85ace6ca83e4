use Rattle.law_refinement.proofs.routes.laws.what_a_frame_of_routes_leads_to.Goals as goal
use Rattle.law_refinement.proofs.RoutesLemmas.Homes.{home_leads}
use Rattle.law_refinement.proofs.RoutesLemmas.Lending.{lent_leads}
use Rattle.law_refinement.proofs.RoutesLemmas.Rights.{ends}
use Rattle.law_refinement.proofs.RoutesLemmas.Told.{told_leads, withdrawn_leads}

pub returns-clause-asked : goal.returns-clause-asked
returns-clause-asked o line t first most w v a c number ok sound sees from to head =
    lent_leads line ok w sound v sees a c number from to t first most head

pub returns-clause-told : goal.returns-clause-told
returns-clause-told o line t run w v a c number ok sound sees linked head =
    let both = ends line c a linked in told_leads line ok w sound v sees a c number both.0.1 both.0.0 both.1 t run head

pub returns-clause-withdrawn : goal.returns-clause-withdrawn
returns-clause-withdrawn o line t s w v a c number ok sound sees from to head =
    withdrawn_leads line ok w sound v sees a c number from to t s head

pub returns-clause-returned : goal.returns-clause-returned
returns-clause-returned o line t run w v a c number ok sound sees from to head =
    home_leads line ok w sound v sees a c number from to t run head
