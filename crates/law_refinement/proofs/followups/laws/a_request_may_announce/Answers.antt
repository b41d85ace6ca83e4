use Rattle.law_refinement.proofs.followups.laws.a_request_may_announce.Goals as goal
use Rattle.law_refinement.proofs.FollowupsLemmas.Proposals.{announced_before, request_may_announce}

pub returns-clause-unannounced : goal.returns-clause-unannounced
returns-clause-unannounced o line c d k j m n place ok h hand = request_may_announce line ok c d k m n place h hand j

pub returns-clause-announced : goal.returns-clause-announced
returns-clause-announced o line c d k j m n place ok h hand next all =
    request_may_announce line ok c d k m n place h hand j next
    (announced_before line ok c d k m n place h hand all next)
