use Rattle.std.proofs.Common.{◌∙◌, ap, Ok, refl, Some, sym, ℕ}
use Rattle.std.proofs.lemmas.Result.{err_from_is_err_and}
use Rattle.rbc_spec.specs.Message.{ShorteningRejected}
use Rattle.rbc_spec.specs.Step.{is_unasked}
use Rattle.rbc_train.proofs.ShorteningRejected.{rejects}
use Rattle.rbc_train.proofs.train.TrainState.shortening_rejected.Goals as goal
use Rattle.rbc_train.proofs.Unanswered.{no_mission, no_session}
use Rattle.rbc_train.specs.Desk.{effect_left, nothing, with_parts}
use Rattle.rbc_train.specs.Guards.{mission_in}

pub returns-clause-exact : goal.returns-clause-exact
returns-clause-exact c = λ line n book rights position k h.
    let old = c.args.self.now in
    let m = mission_in old.supervision c.in_ok-mission.mission in
    rejects line n k c.args.t_train old book rights h c.args.request position m c.in_ok-up.ensures
    c.in_ok-mission.ensures
    (ap (λ (s : ℕ). is_unasked (Some m) (ShorteningRejected s position)) (sym c.value.ensures.value)
    ∙ sym (c.rejected.ensures.reason m position refl) ∙ sym c.is_err.ensures.value ∙ c.if-is_err.false)
    ∙ (λ i. effect_left line n old.supervision.engine
    (with_parts (record {
      session_state = old.session_state;
      heard = Some c.args.t_train;
      said = old.said;
      supervision = sym c.forget_proposal.ensures i;
      waiting = old.waiting;
      expectations = old.expectations;
    }) book rights k) (Ok nothing))

pub returns-in_err-up-clause-exact : goal.returns-in_err-up-clause-exact
returns-in_err-up-clause-exact c = λ line n book rights position k h.
    let p = err_from_is_err_and c.from_residual.result c.from_residual.ensures.1 in
    rw (p.1, p.2)
    (no_session line n k c.args.t_train c.args.self.now book rights h
    (ShorteningRejected c.args.request position) _ refl (λ j down. rw down refl) _ c.in_err-up.ensures)

pub returns-in_err-mission-clause-exact : goal.returns-in_err-mission-clause-exact
returns-in_err-mission-clause-exact c = λ line n book rights position k h.
    let p = err_from_is_err_and c.from_residual-in_err-mission.result c.from_residual-in_err-mission.ensures.1 in
    rw (p.1, p.2)
    (no_mission line n k c.args.t_train c.args.self.now book rights h
    (ShorteningRejected c.args.request position) _ refl (λ j up. rw up refl)
    (λ j. refl) c.in_ok-up.ensures _ c.in_err-mission.ensures)
