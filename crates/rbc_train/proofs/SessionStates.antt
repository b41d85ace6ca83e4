-- How the session of one train changes among those of a centre.
use Rattle.std.proofs.Common.{◌==◌, ◌∙◌, ◌≡◌, ap, cond, inl, inr, None, refl, Some, sym, ℕ}
use Rattle.std.proofs.lemmas.Bool.Decides.{eqb_tells}
use Rattle.rbc_session.proofs.SessionStates.{ended_phases, opened_stands, phase_at-session_state, stands_beside_ended}
use Rattle.rbc_session.proofs.SessionStates.{stands_beside_opened}
use Rattle.rbc_session.specs.declared.session.Opened.{Opened as OpenedType}
use Rattle.rbc_session.specs.declared.session.Session.{Session}
use Rattle.rbc_session.specs.declared.session.SessionState.{SessionState}
use Rattle.rbc_session.specs.declared.session.SessionState.TheVariants as session_state
use Rattle.rbc_session.specs.Session.{key_of}
use Rattle.rbc_session.specs.Sessions.{phase_at, Records, train_at}
use Rattle.rbc_session.specs.SessionStates.{has_key, session_phase, stands_with, StandsFor}
use Rattle.rbc_spec.proofs.Lists.{put_over}
use Rattle.rbc_spec.specs.Centre.{Closed, Opened, Phase}
use Rattle.rbc_train.specs.SessionStates.{Enters, Stands}

at_itself : {X : Type 0} (t : ℕ) (x y : X) → cond (t == t) x y ≡ x
at_itself t x y =
    elim (eqb_tells t t) as (λ _. cond (t == t) x y ≡ x) [ inl e ↦ rw (e.0) refl | inr e ↦ absurd (e.1 refl) ]

module _ (old mid : Records) (ended : SessionState) (t : ℕ) (stood : StandsFor old ended t)
    (phases : (u : ℕ) → phase_at mid u ≡ cond (stands_with old ended u) Closed (phase_at old u))
    (keys : (k : ℕ) → train_at mid k ≡ cond (has_key ended k) None (train_at old k)) where
  pub closed_now : phase_at mid t ≡ Closed
  closed_now = ended_phases old mid ended t stood phases keys t ∙ at_itself t Closed (phase_at old t)

  pub enters_closed : Enters old mid session_state.Closed t Closed
  enters_closed = record {
    phases = ended_phases old mid ended t stood phases keys;
    stands = closed_now;
    others = stands_beside_ended old mid ended t stood phases keys;
  }

  pub enters_opened : (new : Records) (session : Session OpenedType)
      → ((u : ℕ) → phase_at new u ≡ cond (u == t) Opened (phase_at mid u))
      → ((k : ℕ) → train_at new k ≡ cond (k == key_of session) (Some t) (train_at mid k))
      → train_at mid (key_of session) ≡ None
      → Enters old new (session_state.Opened session) t Opened
  enters_opened new session opens new_keys fresh = record {
    phases = λ u. opens u ∙ ap (cond (u == t) Opened) (ended_phases old mid ended t stood phases keys u)
        ∙ put_over t Opened Closed (phase_at old) u;
    stands = opened_stands mid new (key_of session) t opens new_keys fresh;
    others =
        λ other u apart s. stands_beside_opened mid new (key_of session) t opens new_keys fresh other u apart
        (stands_beside_ended old mid ended t stood phases keys other u apart s);
  }

-- the session stays if no session changes any more
pub still_entered : (old mid new : Records) (s : SessionState) (t : ℕ) (phase : Phase) → Enters old mid s t phase
    → ((u : ℕ) → phase_at new u ≡ phase_at mid u) → ((k : ℕ) → train_at new k ≡ train_at mid k)
    → Enters old new s t phase
still_entered old mid new s t phase e phases keys = record {
  phases = λ u. phases u ∙ e.phases u;
  stands = still s t e.stands;
  others = λ other u apart stood. still other u (e.others other u apart stood);
}
  where
    still : (x : SessionState) (u : ℕ) → StandsFor mid x u → StandsFor new x u
    still session_state.Closed u stands = phases u ∙ stands
    still (session_state.Opened session) u stands =
        record { is_with = keys (key_of session) ∙ stands.is_with; is_so_far = phases u ∙ stands.is_so_far }
    still (session_state.Up session) u stands =
        record { is_with = keys (key_of session) ∙ stands.is_with; is_so_far = phases u ∙ stands.is_so_far }

-- a train's session, in either form
pub stands_for_train : (sessions : Records) (s : SessionState) (t : ℕ) → Stands sessions s t → StandsFor sessions s t
stands_for_train sessions session_state.Closed t stands = stands.0
stands_for_train sessions (session_state.Opened session) t stands =
    record { is_with = stands.1 (key_of session) refl; is_so_far = stands.0 }
stands_for_train sessions (session_state.Up session) t stands =
    record { is_with = stands.1 (key_of session) refl; is_so_far = stands.0 }

pub stands_with_train : (sessions : Records) (s : SessionState) (t : ℕ) → StandsFor sessions s t → Stands sessions s t
stands_with_train sessions session_state.Closed t stands = (stands, λ key e. cc)
stands_with_train sessions (session_state.Opened session) t stands = (
  stands.is_so_far,
  λ key e. let same : key_of session ≡ key = cc in
      ap (train_at sessions) (sym same) ∙ stands.is_with,
)
stands_with_train sessions (session_state.Up session) t stands = (
  stands.is_so_far,
  λ key e. let same : key_of session ≡ key = cc in
      ap (train_at sessions) (sym same) ∙ stands.is_with,
)

-- the train's session gives its phase
pub phase_entered : (old new : Records) (s : SessionState) (t : ℕ) (phase : Phase) → Enters old new s t phase
    → session_phase s ≡ phase
phase_entered old new s t phase e = sym (phase_at-session_state new s t e.stands) ∙ e.phases t
    ∙ at_itself t phase (phase_at old t)
