use Rattle.std.proofs.Common.{◌∙◌, ◌≡◌, ap, slice_get, sym}
use Rattle.std.specs.Option.{option_and_then}
use Rattle.rbc_handover.proofs.expectations.Expectations.may_take.Goals as goal
use Rattle.rbc_handover.proofs.Expects.{looked_up}
use Rattle.rbc_handover.specs.Acceptings.{expectation_of}
use Rattle.rbc_handover.specs.Expectations.{expected_from, is_taking_under}

taking : (c : goal.After-may_take_at)
    → c.may_take_at.result ≡ is_taking_under c.args.number (expected_from c.args.self.now c.args.from)
taking c =
    c.may_take_at.ensures
    ∙ ap (λ xs. is_taking_under c.args.number (option_and_then expectation_of (slice_get xs c.args.from)))
    c.as_slice.ensures.value
    ∙ ap (is_taking_under c.args.number) (looked_up c.self.inside.states.items c.args.from)
    ∙ ap (λ e. is_taking_under c.args.number (expected_from e c.args.from)) c.self.view_is

pub returns-clause-value : goal.returns-clause-value
returns-clause-value c = taking c

pub returns-clause-exact : goal.returns-clause-exact
returns-clause-exact c line t k has = taking c ∙ ap (is_taking_under c.args.number) (sym (has.has c.args.from))
