-- How the session of one train changes among those of a centre.
use Rattle.std.specs.Prelude.{◌≡◌, ◌≢◌, ℕ, Option, Some, None}
use Rattle.rbc_spec.specs.Maps.{put}
use Rattle.rbc_spec.specs.Centre.{Phase}
use Rattle.rbc_session.specs.Sessions.{Records, phase_at, train_at}
use Rattle.rbc_session.specs.Session.{key_of}
use Rattle.rbc_session.specs.SessionStates.{StandsFor, session_phase}
use Rattle.rbc_session.specs.declared.session.SessionState.{SessionState}
use Rattle.rbc_session.specs.declared.session.SessionState.TheVariants as session_state

-- the train's session entered this phase and has this state; the sessions of other trains did not change
pub record Enters (old new : Records) (session_state : SessionState) (t : ℕ) (phase : Phase) : Type 0 where
  pub phases : (u : ℕ) → phase_at new u ≡ put (phase_at old) t phase u
  pub stands : StandsFor new session_state t
  pub others : (other : SessionState) (u : ℕ) → u ≢ t → StandsFor old other u → StandsFor new other u

-- the key of the session, if there is one
abbrev pub session_key : SessionState → Option ℕ
session_key session_state.Closed = None
session_key (session_state.Opened session) = Some (key_of session)
session_key (session_state.Up session) = Some (key_of session)

-- this is the train's session: it has this phase and this key
abbrev pub Stands : Records → SessionState → ℕ → Type 0
Stands sessions s t =
    (phase_at sessions t ≡ session_phase s) × ((key : ℕ) → session_key s ≡ Some key → train_at sessions key ≡ Some t)
