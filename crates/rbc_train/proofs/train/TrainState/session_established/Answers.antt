use Rattle.std.proofs.Common.{◌∙◌, ap, sym}
use Rattle.rbc_session.specs.SessionStates.{phase_of}
use Rattle.rbc_spec.specs.Centre.{Up}
use Rattle.rbc_train.proofs.SessionMessages.{established}
use Rattle.rbc_train.proofs.SessionStates.{phase_entered}
use Rattle.rbc_train.proofs.train.TrainState.session_established.Goals as goal

pub returns-clause-exact : goal.returns-clause-exact
returns-clause-exact c = λ line n book rights k h.
    let old = c.args.self.now in
    let session = c.establish.new.session_state in
    established line n k c.args.t_train old book rights h session (sym c.phase.ensures ∙ ap phase_of c.in-Opened.is)
    (phase_entered c.args.sessions.now c.establish.new.sessions session c.nid_engine-nid_engine.result Up
    c.establish.ensures)
