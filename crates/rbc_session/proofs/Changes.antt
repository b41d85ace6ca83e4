-- The changes of one record.
use Rattle.std.proofs.Common.{◌==◌, ◌∙◌, ◌≡◌, ◌≢◌, ap, Bool, cond, false, IfNone, inl, inr, IsSome, MatchOption, None}
use Rattle.std.proofs.Common.{OnSome, Option, option_map, refl, Some, subst, sym, true, ℕ}
use Rattle.std.proofs.lemmas.Bool.{cases_eq, false≢true}
use Rattle.std.proofs.lemmas.Bool.Decides.{eqb_tells}
use Rattle.std.proofs.lemmas.Option.{none-some, same_Some}
use Rattle.std.specs.Option.{option_map_or}
use Rattle.rbc_session.proofs.Records.{closed_is_absent, found_or_absent, phase_of_absent, phase_of_found}
use Rattle.rbc_session.specs.declared.sessions.Record.{Record}
use Rattle.rbc_session.specs.Sessions.{HasRoom, IsOneATrain, phase_at, record_phase, Records, train_at}
use Rattle.rbc_spec.specs.Centre.{Closed, Up}
use Rattle.slab.specs.Slab.{get, HasRoomFor, Updates}

module _ (old new : Records) (key : ℕ) (slot : Option Record) (written : Updates old new key slot) where
  -- a new record of a train without one leaves each train with at most one
  pub one_after : IsOneATrain old
      → ((k : ℕ) (q r : Record) → k ≢ key → get old k ≡ Some q → slot ≡ Some r → q.nid_engine ≢ r.nid_engine)
      → IsOneATrain new
  one_after one apart j k p q at_j at_k same =
      elim (cases_eq j key) [
        | inl j_is ↦ elim (cases_eq k key) [
          | inl k_is ↦ j_is ∙ sym k_is
          | inr k_not ↦
              absurd (apart k q p k_not (sym (written.others k k_not) ∙ at_k)
              (sym written.changed ∙ ap (get new) (sym j_is) ∙ at_j) (sym same))
        ]
        | inr j_not ↦ elim (cases_eq k key) [
          | inl k_is ↦
              absurd (apart j p q j_not (sym (written.others j j_not) ∙ at_j)
              (sym written.changed ∙ ap (get new) (sym k_is) ∙ at_k) same)
          | inr k_not ↦ one j k p q (sym (written.others j j_not) ∙ at_j) (sym (written.others k k_not) ∙ at_k) same
        ]
      ]

  -- a train that the record neither was nor is keeps its phase
  pub phase_kept : IsOneATrain old → IsOneATrain new → (u : ℕ)
      → ((r : Record) → get old key ≡ Some r → r.nid_engine ≢ u) → ((r : Record) → slot ≡ Some r → r.nid_engine ≢ u)
      → phase_at new u ≡ phase_at old u
  phase_kept one_old one_new u was is =
      elim (found_or_absent old u) [
        | inl f ↦
            let elsewhere : f.0 ≢ key = λ e. was f.1 (ap (get old) (sym e) ∙ f.2) f.3 in
            ap (phase_at new) (sym f.3) ∙ phase_of_found new f.0 f.1 one_new (written.others f.0 elsewhere ∙ f.2)
            ∙ sym (phase_of_found old f.0 f.1 one_old f.2) ∙ ap (phase_at old) f.3
        | inr none ↦
            phase_of_absent new u (λ k r at. elim (cases_eq k key) [
              | inl k_is ↦ is r (sym written.changed ∙ ap (get new) (sym k_is) ∙ at)
              | inr k_not ↦ none k r (sym (written.others k k_not) ∙ at)
            ])
            ∙ sym (phase_of_absent old u none)
      ]

  -- the trains of the sessions
  pub keys_after : (k : ℕ) → train_at new k ≡ cond (k == key) (option_map (λ r. r.nid_engine) slot) (train_at old k)
  unfolding train_at
  keys_after k =
      elim (eqb_tells k key) as (λ _. option_map (λ r. r.nid_engine) (get new k)
      ≡ cond (k == key) (option_map (λ r. r.nid_engine) slot) (option_map (λ r. r.nid_engine) (get old k))) [
        | inl e ↦ rw (e.0, e.1) (ap (option_map (λ r. r.nid_engine)) written.changed)
        | inr e ↦ rw (e.0) (ap (option_map (λ r. r.nid_engine)) (written.others k e.1))
      ]

-- ## A session is opened

module _ (old new : Records) (key : ℕ) (r : Record) (written : Updates old new key (Some r)) (one : IsOneATrain old)
    (fresh : get old key ≡ None) (closed : phase_at old r.nid_engine ≡ Closed) where
  pub one_opened : IsOneATrain new
  one_opened = one_after old new key (Some r) written one (λ k q p apart at is same.
      closed_is_absent old r.nid_engine one closed k q at
      (same ∙ ap (λ (x : Record). x.nid_engine) (sym (same_Some r p is))))

  pub phases_opened : (u : ℕ) → phase_at new u ≡ cond (u == r.nid_engine) (record_phase r) (phase_at old u)
  phases_opened u =
      elim (eqb_tells u r.nid_engine) as (λ _. phase_at new u
      ≡ cond (u == r.nid_engine) (record_phase r) (phase_at old u)) [
        | inl e ↦ rw (e.0, e.1) (phase_of_found new key r one_opened written.changed)
        | inr e ↦ rw (e.0) (phase_kept old new key (Some r) written one one_opened u
            (λ p at. absurd (none-some p (sym fresh ∙ at)))
            (λ p is same. e.1 (sym same ∙ ap (λ (x : Record). x.nid_engine) (sym (same_Some r p is)))))
      ]

-- ## A session goes on or ends

module _ (old new : Records) (key : ℕ) (r : Record) (one : IsOneATrain old) (at : get old key ≡ Some r) where
  train_of_key : train_at old key ≡ Some r.nid_engine
  unfolding train_at
  train_of_key = ap (option_map (λ p. p.nid_engine)) at

  abbrev is_its : ℕ → Bool
  is_its u = option_map_or (λ t. t == u) (train_at old key) false

  -- the record of the key is the train's
  its_train : (u : ℕ) → is_its u ≡ (r.nid_engine == u)
  its_train u = ap (λ o. option_map_or (λ t. t == u) o false) train_of_key

  -- no record under another key is the train's
  apart_from : (k : ℕ) (q : Record) → k ≢ key → get old k ≡ Some q → q.nid_engine ≢ r.nid_engine
  apart_from k q k_not at_k same = k_not (one k key q r at_k at same)

  -- the train's record has another phase now
  pub one_moved : (p : Record) → Updates old new key (Some p) → p.nid_engine ≡ r.nid_engine → IsOneATrain new
  one_moved p written same = one_after old new key (Some p) written one (λ k q x k_not at_k is eq.
      apart_from k q k_not at_k (eq ∙ ap (λ (y : Record). y.nid_engine) (sym (same_Some p x is)) ∙ same))

  pub phases_moved : (p : Record) → Updates old new key (Some p) → p.nid_engine ≡ r.nid_engine → (u : ℕ)
      → phase_at new u ≡ cond (is_its u) (record_phase p) (phase_at old u)
  phases_moved p written same u =
      elim (eqb_tells r.nid_engine u) as (λ _. phase_at new u ≡ cond (is_its u) (record_phase p) (phase_at old u)) [
        | inl e ↦
            rw (its_train u, e.0) (ap (phase_at new) (sym (same ∙ e.1))
            ∙ phase_of_found new key p (one_moved p written same) written.changed)
        | inr e ↦ rw (its_train u, e.0) (phase_kept old new key (Some p) written one (one_moved p written same) u
            (λ x is eq. e.1 (ap (λ (y : Record). y.nid_engine) (same_Some r x (sym at ∙ is)) ∙ eq))
            (λ x is eq. e.1 (sym same ∙ ap (λ (y : Record). y.nid_engine) (same_Some p x is) ∙ eq)))
      ]

  -- the train's record is gone
  pub one_ended : Updates old new key None → IsOneATrain new
  one_ended written = one_after old new key None written one (λ k q x k_not at_k is eq. none-some x is)

  pub phases_ended : Updates old new key None → (u : ℕ) → phase_at new u ≡ cond (is_its u) Closed (phase_at old u)
  phases_ended written u =
      elim (eqb_tells r.nid_engine u) as (λ _. phase_at new u ≡ cond (is_its u) Closed (phase_at old u)) [
        | inl e ↦ rw (its_train u, e.0) (phase_of_absent new u (λ k q at_k same. elim (cases_eq k key) [
          | inl k_is ↦ none-some q (sym written.changed ∙ ap (get new) (sym k_is) ∙ at_k)
          | inr k_not ↦ apart_from k q k_not (sym (written.others k k_not) ∙ at_k) (same ∙ sym e.1)
        ]))
        | inr e ↦ rw (its_train u, e.0) (phase_kept old new key None written one (one_ended written) u
            (λ x is eq. e.1 (ap (λ (y : Record). y.nid_engine) (same_Some r x (sym at ∙ is)) ∙ eq))
            (λ x is eq. none-some x is))
      ]

-- a key of no session is of no train
pub train_of_none : (sessions : Records) (key : ℕ) → get sessions key ≡ None → train_at sessions key ≡ None
unfolding train_at
train_of_none sessions key none = ap (option_map (λ r. r.nid_engine)) none

-- ## The effect of each call

-- of the session with this key, if there is one
module _ (old new : Records) (key : ℕ) (one : IsOneATrain old) where
  abbrev is_its_train : ℕ → Bool
  is_its_train u = option_map_or (λ t. t == u) (train_at old key) false

  -- its end
  pub phases_closed : Updates old new key None → (u : ℕ)
      → phase_at new u ≡ cond (is_its_train u) Closed (phase_at old u)
  phases_closed written u = by_record (get old key) refl
    where
      by_record : (o : Option Record) → get old key ≡ o → phase_at new u ≡ cond (is_its_train u) Closed (phase_at old u)
      by_record (Some r) at = phases_ended old new key r one at written u
      by_record None at =
          let one_new : IsOneATrain new =
          one_after old new key None written one (λ k q x k_not at_k is eq. none-some x is) in
          rw (train_of_none old key at)
          (phase_kept old new key None written one one_new u (λ x is. absurd (none-some x (sym at ∙ is)))
          (λ x is. absurd (none-some x is)))

  abbrev IsConfirmed : Option Record → Type 0
  IsConfirmed o = MatchOption o (new ≡ old) (λ r. Updates old new key (Some (record r { is_up = true })))

  -- its confirmation
  pub phases_confirmed : IsConfirmed (get old key) → (u : ℕ)
      → phase_at new u ≡ cond (is_its_train u) Up (phase_at old u)
  phases_confirmed change u = by_record (get old key) refl change
    where
      by_record : (o : Option Record) → get old key ≡ o → IsConfirmed o
          → phase_at new u ≡ cond (is_its_train u) Up (phase_at old u)
      by_record (Some r) at written = phases_moved old new key r one at (record r { is_up = true }) written refl u
      by_record None at same = rw (train_of_none old key at, same) refl

  pub keys_confirmed : IsConfirmed (get old key) → (k : ℕ) → train_at new k ≡ train_at old k
  keys_confirmed change k = by_record (get old key) refl change
    where
      by_record : (o : Option Record) → get old key ≡ o → IsConfirmed o → train_at new k ≡ train_at old k
      by_record (Some r) at written =
          keys_after old new key (Some (record r { is_up = true })) written k
          ∙ elim (eqb_tells k key) as (λ _. cond (k == key) (Some r.nid_engine) (train_at old k) ≡ train_at old k) [
            | inl e ↦ rw (e.0, e.1) (sym (train_of_key old new key r one at))
            | inr e ↦ rw (e.0) refl
          ]
      by_record None at same = ap (λ x. train_at x k) same

-- a record that was taken out left room
pub room_left : (old new : Records) (key : ℕ) (was : Option Record) → was ≡ get old key → OnSome was (HasRoomFor new 1)
    → IsSome (train_at old key) → HasRoom new
unfolding train_at HasRoom
room_left old new key (Some r) at room some = room
room_left old new key None at room some =
    absurd (false≢true (subst (λ o. IsSome (option_map (λ (r : Record). r.nid_engine) o)) (sym at) some))

pub room_kept : (old new : Records) (was : Option Record) → OnSome was (HasRoomFor new 1) → IfNone was (new ≡ old)
    → HasRoom old → HasRoom new
unfolding HasRoom
room_kept old new (Some r) room same had = room
room_kept old new None room same had = subst (λ x. HasRoomFor x 1) (sym same) had
