use Rattle.std.proofs.Common.{◌∙◌, ap, option_map, slice_get}
use Rattle.std.specs.Option.{option_and_then}
use Rattle.rbc_handover.proofs.expectations.Expectations.number.Goals as goal
use Rattle.rbc_handover.proofs.Expects.{looked_up}
use Rattle.rbc_handover.specs.Acceptings.{expectation_of}
use Rattle.rbc_handover.specs.Expectations.{expected_from}
use Rattle.rbc_spec.specs.Centre.{Expectation}

pub returns : goal.returns
returns c =
    c.number_at.ensures
    ∙ ap (λ xs. option_map (λ (x : Expectation). x.number) (option_and_then expectation_of (slice_get xs c.args.from)))
    c.as_slice.ensures.value
    ∙ ap (option_map (λ (x : Expectation). x.number)) (looked_up c.self.inside.states.items c.args.from)
    ∙ ap (λ e. option_map (λ (x : Expectation). x.number) (expected_from e c.args.from)) c.self.view_is
