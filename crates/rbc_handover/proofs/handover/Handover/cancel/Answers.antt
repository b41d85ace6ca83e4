use Rattle.std.proofs.Common.{◌∙◌, ap, Some, sym}
use Rattle.std.specs.Prelude.{option_map}
use Rattle.rbc_handover.proofs.Gives.{cancels}
use Rattle.rbc_handover.proofs.handover.Handover.cancel.Goals as goal
use Rattle.rbc_handover.specs.Handings.{handing_of, handover_name}

pub returns-in-Announced-clause-exact : goal.returns-in-Announced-clause-exact
returns-in-Announced-clause-exact c t m k is =
    cancels t m k (handing_of c.args.self.now) (Some c.cancel.result) is
    (ap (λ n. Some n) c.cancel.ensures
    ∙ ap (λ h. option_map handover_name (handing_of h)) (sym c.in-Announced.is ∙ c.replace.ensures.value))
