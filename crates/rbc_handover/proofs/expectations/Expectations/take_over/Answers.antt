use Rattle.std.proofs.Common.{◌∙◌, ap}
use Rattle.std.specs.Prelude.{option_map}
use Rattle.rbc_handover.proofs.expectations.Expectations.take_over.Goals as goal
use Rattle.rbc_handover.proofs.Expects.{by_states}
use Rattle.rbc_handover.proofs.TakesOver.{takes_over}
use Rattle.rbc_handover.specs.Expectations.{expected_from, is_to_be_told}
use Rattle.rbc_spec.specs.Rules.{taking}

pub returns-clause-exact : goal.returns-clause-exact
returns-clause-exact c line t k has =
    takes_over line t k c.args.self.now has (by_states c.take_over_each.new.states.items) c.take_over_each.result
    (λ d. c.take_over_each.ensures.told d ∙ ap (λ e. is_to_be_told (expected_from e d)) c.self.view_is)
    (λ d. c.take_over_each.ensures.expected d ∙ ap (λ e. option_map taking (expected_from e d)) c.self.view_is)
