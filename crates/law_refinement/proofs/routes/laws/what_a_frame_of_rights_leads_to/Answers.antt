use Rattle.law_refinement.proofs.routes.laws.what_a_frame_of_rights_leads_to.Goals as goal
use Rattle.law_refinement.proofs.RoutesLemmas.Refused.{refused_leads}
use Rattle.law_refinement.proofs.RoutesLemmas.Rights.{asked_leads, given_leads, returned_leads}

pub returns-clause-asked : goal.returns-clause-asked
returns-clause-asked o line t w v a c number ok sound sees from to head =
    asked_leads line ok w sound v sees a c number from to t head

pub returns-clause-given : goal.returns-clause-given
returns-clause-given o line t w v a c number ok sound sees from to head =
    given_leads line ok w sound v sees a c number from to t head

pub returns-clause-returned : goal.returns-clause-returned
returns-clause-returned o line t w v a c number ok sound sees from to head =
    returned_leads line ok w sound v sees a c number from to t head

pub returns-clause-refused : goal.returns-clause-refused
returns-clause-refused o line t w v a c number ok sound sees from to head =
    refused_leads line ok w sound v sees a c number from to t head
