use Rattle.std.proofs.Common.{◌+◌, ◌∙◌, ◌≡◌, ap, max, sym}
use Rattle.rbc_centre.proofs.centre.Centre.may_step.Goals as goal
use Rattle.rbc_centre.proofs.centre.Centre.may_step.Goals.{After-may_take, After-may_take-in-Train}
use Rattle.rbc_centre.proofs.Rows.{later_of}
use Rattle.rbc_centre.proofs.Steps.{err_refused, next_stamp, ok_allowed}
use Rattle.rbc_centre.specs.declared.event.Event.{Event}
use Rattle.rbc_centre.specs.State.{stands_for}
use Rattle.rbc_centre.specs.States.{state_of}
use Rattle.rbc_centre.specs.Views.{event_of}
use Rattle.rbc_spec.specs.Step.{stamp_of}

of_frame : (c : After-may_take) → stamp_of (state_of c.args.self.now) (event_of c.args.event.now) ≡ c.max.result + 1
unfolding stands_for
of_frame c =
    let k = c.args.self.now in
    ap (λ (e : Event). stamp_of (state_of k) (event_of e)) c.in-Deliver.is
    ∙ ap (λ n. max k.clock n + 1) (sym c.stamp.ensures.value)
    ∙ ap (λ n. n + 1) (sym (later_of k.clock c.stamp.result) ∙ sym c.max.ensures)

of_other : (c : After-may_take-in-Train)
    → stamp_of (state_of c.args.self.now) (event_of c.args.event.now) ≡ c.args.self.now.clock + 1
unfolding stands_for
of_other c = next_stamp (state_of c.args.self.now) c.args.event.now c.in-Train.is

pub returns-in-Deliver-clause-ok : goal.returns-in-Deliver-clause-ok
returns-in-Deliver-clause-ok c =
    let k = c.args.self.now in
    ok_allowed k.line k.number (state_of k) (event_of c.args.event.now) c.max.result
    (of_frame (goal.at.returns-in-Deliver-clause-ok c).After-may_take) c.may_take.result c.may_take.ensures.ok

pub returns-in-Deliver-clause-err : goal.returns-in-Deliver-clause-err
returns-in-Deliver-clause-err c =
    let k = c.args.self.now in
    err_refused k.line k.number (state_of k) (event_of c.args.event.now) c.max.result
    (of_frame (goal.at.returns-in-Deliver-clause-err c).After-may_take) c.may_take.result c.may_take.ensures.err

pub returns-in-Train-clause-ok : goal.returns-in-Train-clause-ok
returns-in-Train-clause-ok c =
    let k = c.args.self.now in
    ok_allowed k.line k.number (state_of k) (event_of c.args.event.now) k.clock
    (of_other (goal.at.returns-in-Train-clause-ok c).After-may_take-in-Train) c.may_take-in-Train.result
    c.may_take-in-Train.ensures.ok

pub returns-in-Train-clause-err : goal.returns-in-Train-clause-err
returns-in-Train-clause-err c =
    let k = c.args.self.now in
    err_refused k.line k.number (state_of k) (event_of c.args.event.now) k.clock
    (of_other (goal.at.returns-in-Train-clause-err c).After-may_take-in-Train) c.may_take-in-Train.result
    c.may_take-in-Train.ensures.err
