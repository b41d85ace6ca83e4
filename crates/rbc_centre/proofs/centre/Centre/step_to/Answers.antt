use Rattle.std.proofs.Common.{refl}
use Rattle.std.proofs.lemmas.Result.{err_from_is_err_and}
use Rattle.rbc_centre.proofs.centre.Centre.step_to.Goals as goal
use Rattle.rbc_centre.proofs.Steps.{refused_step, taken_step}
use Rattle.rbc_centre.specs.States.{state_of}
use Rattle.rbc_centre.specs.Views.{event_of}

pub returns-in_err-may_step-clause-exact : goal.returns-in_err-may_step-clause-exact
returns-in_err-may_step-clause-exact c =
    let k = c.args.self.now in
    let p = err_from_is_err_and c.from_residual.result c.from_residual.ensures.1 in
    rw (p.1, p.2) (refused_step k.line k.number (state_of k) (event_of c.args.event.now) c.in_err-may_step.field-0.0
    c.in_err-may_step.ensures.err)

-- memory ran out, and the step is not refused
pub returns-in_err-step_allowed-clause-exact : goal.returns-in_err-step_allowed-clause-exact
returns-in_err-step_allowed-clause-exact c =
    let k = c.args.self.now in
    let p = err_from_is_err_and c.from_residual-in_err-step_allowed.result
    c.from_residual-in_err-step_allowed.ensures.1 in
    rw (p.1, p.2, taken_step k.line k.number (state_of k) (event_of c.args.event.now) c.in_ok-may_step.ensures.ok) refl
