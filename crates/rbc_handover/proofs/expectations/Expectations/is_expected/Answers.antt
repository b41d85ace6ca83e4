use Rattle.std.proofs.Common.{◌∙◌, ◌≡◌, ap, is_some, sym}
use Rattle.std.specs.List.{list_any}
use Rattle.rbc_handover.proofs.expectations.Expectations.is_expected.Goals as goal
use Rattle.rbc_handover.proofs.Expects.{any_state}
use Rattle.rbc_handover.proofs.TakesOver.{any_expected}
use Rattle.rbc_handover.specs.Acceptings.{expectation_of}

expected : (c : goal.After-some_stands) → c.some_stands.result ≡ list_any is_some c.args.self.now
expected c =
    c.some_stands.ensures ∙ ap (list_any (λ state. is_some (expectation_of state))) c.as_slice.ensures.value
    ∙ sym (any_state c.self.inside.states.items) ∙ ap (list_any is_some) c.self.view_is

pub returns-clause-value : goal.returns-clause-value
returns-clause-value c = expected c

pub returns-clause-exact : goal.returns-clause-exact
returns-clause-exact c line t k has = expected c ∙ any_expected line t k c.args.self.now has
