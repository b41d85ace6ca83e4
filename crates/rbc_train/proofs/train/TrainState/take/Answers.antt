use Rattle.std.proofs.Common.{◌∙◌, ap, sym, ℕ}
use Rattle.rbc_msgs.specs.StepMessage.{position_of, step_body, step_message}
use Rattle.rbc_spec.specs.Message.{is_stale}
use Rattle.rbc_train.proofs.Kept.{still_held}
use Rattle.rbc_train.proofs.Takes.{heard_as, heard_same, stale_left}
use Rattle.rbc_train.proofs.train.TrainState.take.Goals as goal
use Rattle.rbc_train.specs.declared.heard.Heard.{Heard}
use Rattle.rbc_train.specs.declared.train.TrainState.{TrainState}
use Rattle.rbc_train.specs.Desk.{effect_left, with_parts}
use Rattle.rbc_train.specs.Written.{written}

pub initiation_of_session-requires-clause-room : goal.initiation_of_session-requires-clause-room
initiation_of_session-requires-clause-room c =
    let old = c.args.self.now in
    c.requires.room (sym c.body.ensures.value ∙ c.in-InitiationOfSession.is)
    (ap (λ (s : ℕ). is_stale s old.heard) (sym c.t_train-t_train.ensures.value) ∙ sym c.is_stale.ensures
    ∙ c.if-is_stale.false)

pub returns-then-is_stale-clause-exact : goal.returns-then-is_stale-clause-exact
returns-then-is_stale-clause-exact c = λ k has known counts.
    let old = c.args.self.now in
    stale_left c.args.line.now c.args.centre k old c.args.book.now c.args.registrar.now
    (step_message c.args.message.now) has c.requires.engine known
    (ap (λ (s : ℕ). is_stale s old.heard) (sym c.t_train-t_train.ensures.value) ∙ sym c.is_stale.ensures
    ∙ c.if-is_stale.true) c.args.count.now counts

pub returns-in-InitiationOfSession-clause-exact : goal.returns-in-InitiationOfSession-clause-exact
returns-in-InitiationOfSession-clause-exact c = λ k has known counts.
    heard_as c.args.line.now c.args.centre k (step_message c.args.message.now) _ c.args.self.now.supervision.engine
    (with_parts c.initiation_of_session.new.self c.initiation_of_session.new.book c.args.registrar.now k)
    (written c.initiation_of_session.result c.initiation_of_session.new.out) c.args.count.now
    (c.initiation_of_session.ensures.exact c.args.line.now c.args.centre c.args.registrar.now k
    (record { parts = has; known = known; timely = sym c.is_stale.ensures ∙ c.if-is_stale.false }))
    (λ i. record {
      t_train = sym c.t_train-t_train.ensures.value i;
      nid_engine = c.requires.engine i;
      body = step_body ((sym c.body.ensures.value ∙ c.in-InitiationOfSession.is) i);
    }) counts

pub returns-in-TerminationOfSession-clause-exact : goal.returns-in-TerminationOfSession-clause-exact
returns-in-TerminationOfSession-clause-exact c = λ k has known counts.
    heard_as c.args.line.now c.args.centre k (step_message c.args.message.now) _ c.args.self.now.supervision.engine
    (with_parts c.termination_of_session.new.self c.termination_of_session.new.book c.args.registrar.now k)
    (written c.termination_of_session.result c.termination_of_session.new.out) c.args.count.now
    (c.termination_of_session.ensures.exact c.args.line.now c.args.centre c.args.registrar.now k
    (record { parts = has; known = known; timely = sym c.is_stale.ensures ∙ c.if-is_stale.false }))
    (λ i. record {
      t_train = sym c.t_train-t_train.ensures.value i;
      nid_engine = c.requires.engine i;
      body = step_body ((sym c.body.ensures.value ∙ c.in-TerminationOfSession.is) i);
    }) counts

pub returns-in-SessionEstablished-clause-exact : goal.returns-in-SessionEstablished-clause-exact
returns-in-SessionEstablished-clause-exact c = λ k has known counts.
    heard_as c.args.line.now c.args.centre k (step_message c.args.message.now) _ c.args.self.now.supervision.engine
    (with_parts c.session_established.new.self c.args.book.now c.args.registrar.now k)
    (written c.session_established.result c.nothing.result) c.args.count.now
    (c.session_established.ensures.exact c.args.line.now c.args.centre c.args.book.now c.args.registrar.now k
    (record { parts = has; known = known; timely = sym c.is_stale.ensures ∙ c.if-is_stale.false })
    ∙ ap (λ (h : Heard). effect_left c.args.line.now c.args.centre c.args.self.now.supervision.engine
    (with_parts c.session_established.new.self c.args.book.now c.args.registrar.now k)
    (written c.session_established.result h)) (sym c.nothing.ensures))
    (λ i. record {
      t_train = sym c.t_train-t_train.ensures.value i;
      nid_engine = c.requires.engine i;
      body = step_body ((sym c.body.ensures.value ∙ c.in-SessionEstablished.is) i);
    }) counts

pub returns-in-StartOfMission-clause-exact : goal.returns-in-StartOfMission-clause-exact
returns-in-StartOfMission-clause-exact c = λ k has known counts.
    heard_as c.args.line.now c.args.centre k (step_message c.args.message.now) _ c.args.self.now.supervision.engine
    (with_parts c.start_of_mission.new.self c.start_of_mission.new.book c.start_of_mission.new.registrar k)
    (written c.start_of_mission.result c.start_of_mission.new.out) c.args.count.now
    (c.start_of_mission.ensures.exact k
    (record { parts = has; known = known; timely = sym c.is_stale.ensures ∙ c.if-is_stale.false }))
    (λ i. record {
      t_train = sym c.t_train-t_train.ensures.value i;
      nid_engine = c.requires.engine i;
      body = step_body ((sym c.body.ensures.value ∙ c.in-StartOfMission.is) i);
    }) counts

pub returns-in-TrainData-clause-exact : goal.returns-in-TrainData-clause-exact
returns-in-TrainData-clause-exact c = λ k has known counts.
    heard_as c.args.line.now c.args.centre k (step_message c.args.message.now) _ c.args.self.now.supervision.engine
    (with_parts c.train_data.new.self c.args.book.now c.args.registrar.now k)
    (written c.train_data.result c.train_data.new.out) c.args.count.now
    (c.train_data.ensures.exact c.args.line.now c.args.centre c.args.book.now c.args.registrar.now
    (position_of c.in-TrainData.position) k
    (record { parts = has; known = known; timely = sym c.is_stale.ensures ∙ c.if-is_stale.false }))
    (λ i. record {
      t_train = sym c.t_train-t_train.ensures.value i;
      nid_engine = c.requires.engine i;
      body = step_body ((sym c.body.ensures.value ∙ c.in-TrainData.is) i);
    }) counts

pub returns-in-Request-clause-exact : goal.returns-in-Request-clause-exact
returns-in-Request-clause-exact c = λ k has known counts.
    heard_same c.args.line.now c.args.centre k (step_message c.args.message.now) _ _
    (c.request.ensures.exact c.args.registrar.now k
    (record { parts = has; known = known; timely = sym c.is_stale.ensures ∙ c.if-is_stale.false }) counts)
    (λ i. record {
      t_train = sym c.t_train-t_train.ensures.value i;
      nid_engine = c.requires.engine i;
      body = step_body ((sym c.body.ensures.value ∙ c.in-Request.is) i);
    })

pub returns-in-Report-clause-exact : goal.returns-in-Report-clause-exact
returns-in-Report-clause-exact c = λ k has known counts.
    heard_as c.args.line.now c.args.centre k (step_message c.args.message.now) _ c.args.self.now.supervision.engine
    (with_parts c.report.new.self c.report.new.book c.report.new.registrar k)
    (written c.report.result c.report.new.out) c.args.count.now
    (c.report.ensures.exact k
    (record { parts = has; known = known; timely = sym c.is_stale.ensures ∙ c.if-is_stale.false }))
    (λ i. record {
      t_train = sym c.t_train-t_train.ensures.value i;
      nid_engine = c.requires.engine i;
      body = step_body ((sym c.body.ensures.value ∙ c.in-Report.is) i);
    }) counts

pub returns-in-ShorteningGranted-clause-exact : goal.returns-in-ShorteningGranted-clause-exact
returns-in-ShorteningGranted-clause-exact c = λ k has known counts.
    heard_as c.args.line.now c.args.centre k (step_message c.args.message.now) _ c.args.self.now.supervision.engine
    (with_parts c.shortening_granted.new.self c.shortening_granted.new.book c.shortening_granted.new.registrar k)
    (written c.shortening_granted.result c.shortening_granted.new.out) c.args.count.now
    (c.shortening_granted.ensures.exact k
    (record { parts = has; known = known; timely = sym c.is_stale.ensures ∙ c.if-is_stale.false }))
    (λ i. record {
      t_train = sym c.t_train-t_train.ensures.value i;
      nid_engine = c.requires.engine i;
      body = step_body ((sym c.body.ensures.value ∙ c.in-ShorteningGranted.is) i);
    }) counts

pub returns-in-ShorteningRejected-clause-exact : goal.returns-in-ShorteningRejected-clause-exact
returns-in-ShorteningRejected-clause-exact c = λ k has known counts.
    heard_as c.args.line.now c.args.centre k (step_message c.args.message.now) _ c.args.self.now.supervision.engine
    (with_parts c.shortening_rejected.new.self c.args.book.now c.args.registrar.now k)
    (written c.shortening_rejected.result c.nothing.result) c.args.count.now
    (c.shortening_rejected.ensures.exact c.args.line.now c.args.centre c.args.book.now c.args.registrar.now
    (position_of c.in-ShorteningRejected.position) k
    (record { parts = has; known = known; timely = sym c.is_stale.ensures ∙ c.if-is_stale.false })
    ∙ ap (λ (h : Heard). effect_left c.args.line.now c.args.centre c.args.self.now.supervision.engine
    (with_parts c.shortening_rejected.new.self c.args.book.now c.args.registrar.now k)
    (written c.shortening_rejected.result h)) (sym c.nothing.ensures))
    (λ i. record {
      t_train = sym c.t_train-t_train.ensures.value i;
      nid_engine = c.requires.engine i;
      body = step_body ((sym c.body.ensures.value ∙ c.in-ShorteningRejected.is) i);
    }) counts

pub returns-in-EndOfMission-clause-exact : goal.returns-in-EndOfMission-clause-exact
returns-in-EndOfMission-clause-exact c = λ k has known counts.
    heard_as c.args.line.now c.args.centre k (step_message c.args.message.now) _ c.args.self.now.supervision.engine
    (with_parts c.end_of_mission.new.self c.end_of_mission.new.book c.end_of_mission.new.registrar k)
    (written c.end_of_mission.result c.end_of_mission.new.out) c.args.count.now
    (c.end_of_mission.ensures.exact k
    (record { parts = has; known = known; timely = sym c.is_stale.ensures ∙ c.if-is_stale.false }))
    (λ i. record {
      t_train = sym c.t_train-t_train.ensures.value i;
      nid_engine = c.requires.engine i;
      body = step_body ((sym c.body.ensures.value ∙ c.in-EndOfMission.is) i);
    }) counts

pub returns-in-InitiationOfSession-clause-held : goal.returns-in-InitiationOfSession-clause-held
returns-in-InitiationOfSession-clause-held c =
    still_held c.args.line.now c.args.centre c.args.self.now c.initiation_of_session.new.self
    (ap (λ (p : TrainState). p.supervision.engine) c.initiation_of_session.ensures.left)
    (ap (λ (p : TrainState). p.supervision.hand) c.initiation_of_session.ensures.left) c.requires.held

pub returns-in-TerminationOfSession-clause-held : goal.returns-in-TerminationOfSession-clause-held
returns-in-TerminationOfSession-clause-held c =
    still_held c.args.line.now c.args.centre c.args.self.now c.termination_of_session.new.self
    (ap (λ (p : TrainState). p.supervision.engine) c.termination_of_session.ensures.left)
    (ap (λ (p : TrainState). p.supervision.hand) c.termination_of_session.ensures.left) c.requires.held

pub returns-in-SessionEstablished-clause-held : goal.returns-in-SessionEstablished-clause-held
returns-in-SessionEstablished-clause-held c =
    still_held c.args.line.now c.args.centre c.args.self.now c.session_established.new.self
    (ap (λ (p : TrainState). p.supervision.engine) c.session_established.ensures.left)
    (ap (λ (p : TrainState). p.supervision.hand) c.session_established.ensures.left) c.requires.held

pub returns-in-TrainData-clause-held : goal.returns-in-TrainData-clause-held
returns-in-TrainData-clause-held c =
    still_held c.args.line.now c.args.centre c.args.self.now c.train_data.new.self
    (ap (λ (p : TrainState). p.supervision.engine) c.train_data.ensures.left)
    (ap (λ (p : TrainState). p.supervision.hand) c.train_data.ensures.left) c.requires.held

pub returns-in-ShorteningRejected-clause-held : goal.returns-in-ShorteningRejected-clause-held
returns-in-ShorteningRejected-clause-held c =
    still_held c.args.line.now c.args.centre c.args.self.now c.shortening_rejected.new.self
    (ap (λ (p : TrainState). p.supervision.engine) c.shortening_rejected.ensures.left)
    (ap (λ (p : TrainState). p.supervision.hand) c.shortening_rejected.ensures.left) c.requires.held
