use Rattle.std.proofs.Common.{[], ◌+◌, ◌∙◌, ◌∷◌, ap, Ok, refl, Some, sym}
use Rattle.std.proofs.lemmas.Result.{err_from_is_err_and}
use Rattle.rbc_mission.specs.Supervisions.{SupervisionState}
use Rattle.rbc_spec.specs.Message.{DataAcknowledged, TrainData, unknown_group}
use Rattle.rbc_train.proofs.Desk.{answer_to, left_as}
use Rattle.rbc_train.proofs.SessionMessages.{takes_data}
use Rattle.rbc_train.proofs.train.TrainState.train_data.Goals as goal
use Rattle.rbc_train.proofs.Unanswered.{no_mission, no_session}
use Rattle.rbc_train.specs.declared.heard.Heard.{Heard}
use Rattle.rbc_train.specs.Desk.{effect_left, with_parts}
use Rattle.rbc_train.specs.Guards.{mission_in}

pub returns-clause-exact : goal.returns-clause-exact
returns-clause-exact c = λ line n book rights position k h.
    let old = c.args.self.now in
    takes_data line n k c.args.t_train old book rights h position (mission_in old.supervision c.in_ok-mission.mission)
    c.in_ok-up.ensures c.in_ok-mission.ensures c.if-mission.false
    ∙ sym (left_as k c.answer-saying.new.self _ book rights _
    (answer_to old.supervision.engine (old.said + 1) (DataAcknowledged c.args.t_train)) [] []
    (c.answer-saying.ensures.counted
    ∙ ap (λ (x : SupervisionState). record {
      session_state = old.session_state;
      heard = Some c.args.t_train;
      said = old.said + 1;
      supervision = x;
      waiting = old.waiting;
      expectations = old.expectations;
    }) c.note_data.ensures)
    (ap (λ x. x ∷ []) (c.answer-saying.ensures.saying
    ∙ (λ i. record {
      nid_engine = (c.note_data.ensures i).engine;
      message =
          record {
            t_train = old.said + 1;
            nid_lrbg = unknown_group;
            body = DataAcknowledged ((c.new.ensures ∙ c.from.ensures) i);
          };
    })))
    refl)
    ∙ ap (λ (x : Heard). effect_left line n old.supervision.engine (with_parts c.answer-saying.new.self book rights k)
    (Ok (record x { saying = Some c.answer-saying.result }))) (sym c.requires.ready.out)

pub returns-in_err-up-clause-exact : goal.returns-in_err-up-clause-exact
returns-in_err-up-clause-exact c = λ line n book rights position k h.
    let p = err_from_is_err_and c.from_residual.result c.from_residual.ensures.1 in
    rw (p.1, p.2)
    (no_session line n k c.args.t_train c.args.self.now book rights h (TrainData position) _ refl
    (λ j down. rw down refl) _ c.in_err-up.ensures)

pub returns-in_err-mission-clause-exact : goal.returns-in_err-mission-clause-exact
returns-in_err-mission-clause-exact c = λ line n book rights position k h.
    let p = err_from_is_err_and c.from_residual-in_err-mission.result c.from_residual-in_err-mission.ensures.1 in
    rw (p.1, p.2)
    (no_mission line n k c.args.t_train c.args.self.now book rights h (TrainData position) _ refl (λ j up. rw up refl)
    (λ j. refl) c.in_ok-up.ensures _ c.in_err-mission.ensures)
