-- A train's session before and after each call, for the crates above.
use Rattle.std.proofs.Common.{◌==◌, ◌∙◌, ◌≡◌, ◌≢◌, ap, cond, false, inl, inr, None, refl, Some, sym, true, ℕ}
use Rattle.std.proofs.lemmas.Bool.Decides.{eqb_tells}
use Rattle.std.proofs.lemmas.Option.{none-some, same_Some}
use Rattle.std.specs.Option.{option_map_or}
use Rattle.rbc_session.specs.declared.session.SessionState.{SessionState}
use Rattle.rbc_session.specs.declared.session.SessionState.TheVariants as session_state
use Rattle.rbc_session.specs.Sessions.{phase_at, Records, train_at}
use Rattle.rbc_session.specs.SessionStates.{has_key, IsSessionOf, session_phase, stands_with, StandsFor}
use Rattle.rbc_spec.specs.Centre.{Closed, Opened, Up}

-- the phase of a session's type is that of the train
pub phase_at-session_state : (sessions : Records) (s : SessionState) (t : ℕ) → StandsFor sessions s t
    → phase_at sessions t ≡ session_phase s
phase_at-session_state sessions session_state.Closed t stands = stands
phase_at-session_state sessions (session_state.Opened session) t stands = stands.is_so_far
phase_at-session_state sessions (session_state.Up session) t stands = stands.is_so_far

-- a train whose phase and key stay keeps its session
pub stands_still : (old new : Records) (s : SessionState) (t : ℕ) → StandsFor old s t → phase_at new t ≡ phase_at old t
    → ((k : ℕ) → train_at old k ≡ Some t → train_at new k ≡ Some t) → StandsFor new s t
stands_still old new session_state.Closed t stands same keys = same ∙ stands
stands_still old new (session_state.Opened session) t stands same keys =
    record { is_with = keys _ stands.is_with; is_so_far = same ∙ stands.is_so_far }
stands_still old new (session_state.Up session) t stands same keys =
    record { is_with = keys _ stands.is_with; is_so_far = same ∙ stands.is_so_far }

other_is_false : (u t : ℕ) → u ≢ t → (u == t) ≡ false
other_is_false u t other = elim (eqb_tells u t) [ inl e ↦ absurd (other e.1) | inr e ↦ e.0 ]

same_is_true : (t : ℕ) → (t == t) ≡ true
same_is_true t = elim (eqb_tells t t) [ inl e ↦ e.0 | inr e ↦ absurd (e.1 refl) ]

-- ## A session was opened under an unused key

module _ (old new : Records) (key t : ℕ) (phases : (u : ℕ) → phase_at new u ≡ cond (u == t) Opened (phase_at old u))
    (keys : (k : ℕ) → train_at new k ≡ cond (k == key) (Some t) (train_at old k))
    (fresh : train_at old key ≡ None) where
  pub opened_stands : IsSessionOf new key Opened t
  opened_stands = record {
    is_with = keys key ∙ ap (λ b. cond b (Some t) (train_at old key)) (same_is_true key);
    is_so_far = phases t ∙ ap (λ b. cond b Opened (phase_at old t)) (same_is_true t);
  }

  pub stands_beside_opened : (s : SessionState) (u : ℕ) → u ≢ t → StandsFor old s u → StandsFor new s u
  stands_beside_opened s u other stands =
      stands_still old new s u stands (phases u ∙ ap (λ b. cond b Opened (phase_at old u)) (other_is_false u t other))
      (λ k at.
      let elsewhere : k ≢ key = λ e. none-some u (sym fresh ∙ ap (train_at old) (sym e) ∙ at) in
      keys k ∙ ap (λ b. cond b (Some t) (train_at old k)) (other_is_false k key elsewhere) ∙ at)

-- ## A train's session was confirmed

-- ## The session of a train was ended

module _ (old new : Records) (ended : SessionState) (t : ℕ) (stood : StandsFor old ended t)
    (phases : (u : ℕ) → phase_at new u ≡ cond (stands_with old ended u) Closed (phase_at old u))
    (keys : (k : ℕ) → train_at new k ≡ cond (has_key ended k) None (train_at old k)) where
  with_train : (key u : ℕ) → train_at old key ≡ Some t
      → cond (option_map_or (λ v. v == u) (train_at old key) false) Closed (phase_at old u)
      ≡ cond (u == t) Closed (phase_at old u)
  with_train key u at =
      ap (λ o. cond (option_map_or (λ v. v == u) o false) Closed (phase_at old u)) at
      ∙ elim (eqb_tells u t) as (λ _. cond (t == u) Closed (phase_at old u) ≡ cond (u == t) Closed (phase_at old u)) [
        | inl e ↦ rw (e.1) refl
        | inr e ↦ rw (e.0, other_is_false t u (λ same. e.1 (sym same))) refl
      ]

  -- the train is closed, and every other keeps its phase
  pub ended_phases : (u : ℕ) → phase_at new u ≡ cond (u == t) Closed (phase_at old u)
  ended_phases u = phases u ∙ by_session_state ended stood
    where
      by_session_state : (s : SessionState) → StandsFor old s t
          → cond (stands_with old s u) Closed (phase_at old u) ≡ cond (u == t) Closed (phase_at old u)
      by_session_state session_state.Closed closed =
          elim (eqb_tells u t) as (λ _. phase_at old u ≡ cond (u == t) Closed (phase_at old u)) [
            | inl e ↦ rw (e.0, e.1) closed
            | inr e ↦ rw (e.0) refl
          ]
      by_session_state (session_state.Opened session) at = with_train session.key u at.is_with
      by_session_state (session_state.Up session) at = with_train session.key u at.is_with

  pub stands_beside_ended : (s : SessionState) (u : ℕ) → u ≢ t → StandsFor old s u → StandsFor new s u
  stands_beside_ended s u other stands =
      stands_still old new s u stands
      (ended_phases u ∙ ap (λ b. cond b Closed (phase_at old u)) (other_is_false u t other)) (λ k at.
      keys k ∙ ap (λ b. cond b None (train_at old k)) (other_key ended stood k at) ∙ at)
    where
      apart : (key k : ℕ) → train_at old key ≡ Some t → train_at old k ≡ Some u → (k == key) ≡ false
      apart key k at_key at_k =
          other_is_false k key (λ e. other (same_Some u t (sym at_k ∙ ap (train_at old) e ∙ at_key)))

      other_key : (x : SessionState) → StandsFor old x t → (k : ℕ) → train_at old k ≡ Some u → has_key x k ≡ false
      other_key session_state.Closed closed k at = refl
      other_key (session_state.Opened session) has k at = apart session.key k has.is_with at
      other_key (session_state.Up session) has k at = apart session.key k has.is_with at
