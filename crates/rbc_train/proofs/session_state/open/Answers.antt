use Rattle.std.proofs.Common.{if◌then◌else◌, ◌∙◌, ap, None, subst, sym}
use Rattle.rbc_session.specs.declared.session.SessionState.{SessionState}
use Rattle.rbc_session.specs.Sessions.{phase_at, train_at}
use Rattle.rbc_session.specs.SessionStates.{has_key, stands_with, StandsFor}
use Rattle.rbc_spec.specs.Centre.{Closed, Opened}
use Rattle.rbc_train.proofs.session_state.open.Goals as goal
use Rattle.rbc_train.proofs.SessionStates.{enters_opened, still_entered}
use Rattle.rbc_train.specs.SessionStates.{Enters}

pub returns : goal.returns
returns c =
    let old = c.args.sessions.now in
    let t = c.args.nid_engine in
    let mid = c.open_reserved.new.self in
    let new = c.end-2.new.self in
    let stood = subst (λ (s : SessionState). StandsFor old s t) (sym c.replace-stood.ensures.value) c.requires.stands in
    let none = c.replace-closed.ensures.value ∙ c.replace-stood.ensures.after in
    subst (λ (s : SessionState). Enters old new s t Opened) (sym c.replace-closed.ensures.after)
    (still_entered old mid new _ t Opened
    (enters_opened old c.end.new.self c.replace-stood.result t stood c.end.ensures.phases c.end.ensures.keys mid
    c.open_reserved.result c.open_reserved.ensures.phases c.open_reserved.ensures.keys c.open_reserved.ensures.fresh)
    (λ u. c.end-2.ensures.phases u
    ∙ ap (λ (s : SessionState). if stands_with mid s u then Closed else phase_at mid u) none)
    (λ k. c.end-2.ensures.keys k ∙ ap (λ (s : SessionState). if has_key s k then None else train_at mid k) none))
