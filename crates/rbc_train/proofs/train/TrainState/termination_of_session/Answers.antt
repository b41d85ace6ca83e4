use Rattle.std.proofs.Common.{[], ◌+◌, ◌∙◌, ◌∷◌, ◌≡◌, ap, false, inl, inr, Ok, refl, Some, sym}
use Rattle.rbc_mission.specs.Supervisions.{SupervisionState}
use Rattle.rbc_session.specs.SessionStates.{phase_of, session_phase}
use Rattle.rbc_spec.specs.Centre.{Closed, is_closed}
use Rattle.rbc_spec.specs.Message.{TerminationAcknowledged, unknown_group}
use Rattle.rbc_train.proofs.Desk.{answer_to, left_as}
use Rattle.rbc_train.proofs.SessionMessages.{closed}
use Rattle.rbc_train.proofs.SessionStates.{phase_entered}
use Rattle.rbc_train.proofs.train.TrainState.termination_of_session.Goals as goal
use Rattle.rbc_train.specs.declared.heard.Heard.{Heard}
use Rattle.rbc_train.specs.Desk.{effect_left, with_parts}

pub returns-clause-exact : goal.returns-clause-exact
returns-clause-exact c = λ line n rights k h.
    let old = c.args.self.now in
    let session = c.close.new.session_state in
    let waiting = c.drop_start-told.new.self in
    let told = c.drop_start-told.result in
    closed line n k c.args.t_train old c.args.book.now rights h session waiting c.drop_start-told.new.book told
    c.drop_start-told.ensures.waits (c.drop_start-told.ensures.exact line n)
    (elim c.in-Opened.is as (λ _. is_closed (session_phase old.session_state) ≡ false) [
      | inl e ↦ ap is_closed (sym c.phase.ensures ∙ ap phase_of e)
      | inr e ↦ ap is_closed (sym c.phase.ensures ∙ ap phase_of e)
    ])
    (phase_entered c.args.sessions.now c.close.new.sessions session c.nid_engine-nid_engine.result Closed
    c.close.ensures)
    ∙ sym (left_as k c.answer-saying.new.self _ c.drop_start-told.new.book rights _
    (answer_to old.supervision.engine (old.said + 1) TerminationAcknowledged) told told
    (c.answer-saying.ensures.counted
    ∙ ap (λ (x : SupervisionState). record {
      session_state = session;
      heard = Some c.args.t_train;
      said = old.said + 1;
      supervision = x;
      waiting = waiting;
      expectations = old.expectations;
    }) c.forget_proposal.ensures)
    (ap (λ x. x ∷ []) (c.answer-saying.ensures.saying
    ∙ ap (λ (x : SupervisionState). record {
      nid_engine = x.engine;
      message = record { t_train = old.said + 1; nid_lrbg = unknown_group; body = TerminationAcknowledged };
    }) c.forget_proposal.ensures))
    refl)
    ∙ ap (λ (x : Heard). effect_left line n old.supervision.engine
    (with_parts c.answer-saying.new.self c.drop_start-told.new.book rights k)
    (Ok (record x { saying = Some c.answer-saying.result; told = told }))) (sym c.requires.ready.out)
