-- The state of a train's session at a centre, and its plain data.
use Rattle.std.specs.Prelude.{◌≡◌, ℕ, Bool, false, ◌==◌, Some}
use Rattle.rbc_spec.specs.Centre.{Phase, Closed, Opened, Up}
use Rattle.rbc_session.specs.Sessions.{Records, phase_at, train_at}
use Rattle.rbc_session.specs.Session.{key_of, is_of}
use Rattle.rbc_session.specs.declared.session.Phase.{Phase as PhaseCode}
use Rattle.rbc_session.specs.declared.session.Phase.TheVariants as code
use Rattle.rbc_session.specs.declared.session.SessionState.{SessionState}
use Rattle.rbc_session.specs.declared.session.SessionState.TheVariants as session_state

-- a phase in memory as one of the rules
abbrev pub phase_of : PhaseCode → Phase
phase_of code.Closed = Closed
phase_of code.Opened = Opened
phase_of code.Up = Up

-- the phase of a session's type
abbrev pub session_phase : SessionState → Phase
session_phase session_state.Closed = Closed
session_phase (session_state.Opened session) = Opened
session_phase (session_state.Up session) = Up

-- the session is with the train
abbrev pub stands_with : Records → SessionState → ℕ → Bool
stands_with sessions session_state.Closed t = false
stands_with sessions (session_state.Opened session) t = is_of sessions session t
stands_with sessions (session_state.Up session) t = is_of sessions session t

-- the session has this key
abbrev pub has_key : SessionState → ℕ → Bool
has_key session_state.Closed k = false
has_key (session_state.Opened session) k = k == key_of session
has_key (session_state.Up session) k = k == key_of session

-- the session with this key is with the train, and has this phase
pub record IsSessionOf (sessions : Records) (key : ℕ) (phase : Phase) (t : ℕ) : Type 0 where
  pub is_with : train_at sessions key ≡ Some t
  pub is_so_far : phase_at sessions t ≡ phase

-- this is the train's session at the centre
abbrev pub StandsFor : Records → SessionState → ℕ → Type 0
StandsFor sessions session_state.Closed t = phase_at sessions t ≡ Closed
StandsFor sessions (session_state.Opened session) t = IsSessionOf sessions (key_of session) Opened t
StandsFor sessions (session_state.Up session) t = IsSessionOf sessions (key_of session) Up t
