use Rattle.std.proofs.Common.{subst, sym}
use Rattle.rbc_session.specs.declared.session.SessionState.{SessionState}
use Rattle.rbc_session.specs.SessionStates.{StandsFor}
use Rattle.rbc_spec.specs.Centre.{Closed}
use Rattle.rbc_train.proofs.session_state.close.Goals as goal
use Rattle.rbc_train.proofs.SessionStates.{enters_closed}
use Rattle.rbc_train.specs.SessionStates.{Enters}

pub returns : goal.returns
returns c =
    let old = c.args.sessions.now in
    let t = c.args.nid_engine in
    let stood = subst (λ (s : SessionState). StandsFor old s t) (sym c.replace-stood.ensures.value) c.requires.stands in
    subst (λ (s : SessionState). Enters old c.end.new.self s t Closed) (sym c.replace-stood.ensures.after)
    (enters_closed old c.end.new.self c.replace-stood.result t stood c.end.ensures.phases c.end.ensures.keys)
