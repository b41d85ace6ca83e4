use Rattle.std.proofs.Common.{subst}
use Rattle.law_refinement.proofs.routes.laws.what_the_interlocking_leads_to.Goals as goal
use Rattle.law_refinement.proofs.RoutesLemmas.Interlocking.{set_leads, unset_leads}
use Rattle.law_refinement.specs.Routes.Interlocking.{LeadsSet, LeadsUnset}
use Rattle.rbc_spec.specs.Step.{set, unset}

pub returns-clause-set : goal.returns-clause-set
returns-clause-set o line w v c s k ok sound sees to is =
    subst (λ x. LeadsSet line w c s (set line c s x) v) is (set_leads line w sound v sees c s to)

pub returns-clause-unset : goal.returns-clause-unset
returns-clause-unset o line w v c s k ok sound sees to is =
    subst (λ x. LeadsUnset line w c s (unset line c s x) v) is (unset_leads line w sound v sees c s to ok)
