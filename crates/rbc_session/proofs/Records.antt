-- The record of a train among those of all sessions.
use Rattle.std.proofs.Common.{[], ◌∙◌, ◌∷◌, ◌≡◌, ◌≢◌, ◌⊎◌, ap, arith, cond, false, get_or, inl, inr, List, None, Option}
use Rattle.std.proofs.Common.{option_map, refl, Some, suc, sym, true, zero, ℕ}
use Rattle.std.proofs.lemmas.Bool.{cases_eq}
use Rattle.std.proofs.lemmas.Bool.Decides.{eqb_tells}
use Rattle.std.proofs.lemmas.Option.{none-some, same_Some}
use Rattle.rbc_session.specs.declared.sessions.Record.{Record}
use Rattle.rbc_session.specs.Sessions.{AtMostOneATrain, IsOneATrain, phase_at, phase_in, record_phase, Records}
use Rattle.rbc_session.specs.Sessions.{train_at}
use Rattle.rbc_spec.specs.Centre.{Closed, Opened, Up}
use Rattle.slab.specs.Slab.{get}

abbrev Slots : Type 0
Slots = List (Option Record)

-- the train has the record with this key
abbrev IsAt : Slots → ℕ → Record → Type 0
IsAt slots k r = get_or slots k None ≡ Some r

-- no record is the train's
abbrev IsAbsent : Slots → ℕ → Type 0
IsAbsent slots t = (k : ℕ) (r : Record) → IsAt slots k r → r.nid_engine ≢ t

IsOne : Slots → Type 0
IsOne slots = (j k : ℕ) (p q : Record) → IsAt slots j p → IsAt slots k q → p.nid_engine ≡ q.nid_engine → j ≡ k

one_of_rest : (slot : Option Record) (rest : Slots) → IsOne (slot ∷ rest) → IsOne rest
unfolding IsOne
one_of_rest slot rest one j k p q at_j at_k same = let next : suc j ≡ suc k = one (suc j) (suc k) p q at_j at_k same in
    omega arith

-- the phase of a train that has a record
found_phase : (slots : Slots) (k : ℕ) (r : Record) (t : ℕ) → IsOne slots → IsAt slots k r → r.nid_engine ≡ t
    → phase_in slots t ≡ record_phase r
unfolding IsOne
found_phase [] k r t one at same = absurd (none-some r at)
found_phase (None ∷ rest) zero r t one at same = absurd (none-some r at)
found_phase (None ∷ rest) (suc k) r t one at same = found_phase rest k r t (one_of_rest None rest one) at same
found_phase (Some p ∷ rest) zero r t one at same =
    let is : p ≡ r = same_Some p r at in
    elim (eqb_tells p.nid_engine t) [
      | inl e ↦ rw (e.0) (ap record_phase is)
      | inr e ↦ absurd (e.1 (ap (λ (q : Record). q.nid_engine) is ∙ same))
    ]
found_phase (Some p ∷ rest) (suc k) r t one at same =
    elim (eqb_tells p.nid_engine t) [
      | inl e ↦ absurd (let first : 0 ≡ suc k = one 0 (suc k) p r refl at (e.1 ∙ sym same) in omega arith)
      | inr e ↦ rw (e.0) (found_phase rest k r t (one_of_rest (Some p) rest one) at same)
    ]

-- the phase of a train that has none
absent_phase : (slots : Slots) (t : ℕ) → IsAbsent slots t → phase_in slots t ≡ Closed
absent_phase [] t absent = refl
absent_phase (None ∷ rest) t absent = absent_phase rest t (λ k. absent (suc k))
absent_phase (Some p ∷ rest) t absent =
    elim (eqb_tells p.nid_engine t) [
      | inl e ↦ absurd (absent 0 p refl e.1)
      | inr e ↦ rw (e.0) (absent_phase rest t (λ k. absent (suc k)))
    ]

-- a train has a record or none
is_found : (slots : Slots) (t : ℕ) → ((k : ℕ) × (r : Record) × IsAt slots k r × (r.nid_engine ≡ t)) ⊎ IsAbsent slots t
is_found [] t = inr (λ k r at same. none-some r at)
is_found (None ∷ rest) t = elim (is_found rest t) [
  | inl f ↦ inl (suc f.0, f.1, f.2, f.3)
  | inr none ↦ inr (λ k. by_key none k)
]
  where
    by_key : IsAbsent rest t → (k : ℕ) (r : Record) → IsAt (None ∷ rest) k r → r.nid_engine ≢ t
    by_key none zero r at = absurd (none-some r at)
    by_key none (suc k) r at = none k r at
is_found (Some p ∷ rest) t = elim (cases_eq p.nid_engine t) [
  | inl same ↦ inl (0, p, refl, same)
  | inr other ↦ elim (is_found rest t) [
    | inl f ↦ inl (suc f.0, f.1, f.2, f.3)
    | inr none ↦ inr (λ k. by_key other none k)
  ]
]
  where
    by_key : p.nid_engine ≢ t → IsAbsent rest t → (k : ℕ) (r : Record) → IsAt (Some p ∷ rest) k r → r.nid_engine ≢ t
    by_key other none zero r at same = other (ap (λ (q : Record). q.nid_engine) (same_Some p r at) ∙ same)
    by_key other none (suc k) r at same = none k r at same

-- ## The same of the sessions of a centre

pub phase_of_found : (sessions : Records) (k : ℕ) (r : Record) → IsOneATrain sessions → get sessions k ≡ Some r
    → phase_at sessions r.nid_engine ≡ record_phase r
unfolding phase_at IsOne
phase_of_found sessions k r one at = found_phase sessions.slots k r r.nid_engine one at refl

pub phase_of_absent : (sessions : Records) (t : ℕ) → ((k : ℕ) (r : Record) → get sessions k ≡ Some r → r.nid_engine ≢ t)
    → phase_at sessions t ≡ Closed
unfolding phase_at
phase_of_absent sessions t absent = absent_phase sessions.slots t absent

pub found_or_absent : (sessions : Records) (t : ℕ)
    → ((k : ℕ) × (r : Record) × (get sessions k ≡ Some r) × (r.nid_engine ≡ t))
    ⊎ ((k : ℕ) (r : Record) → get sessions k ≡ Some r → r.nid_engine ≢ t)
found_or_absent sessions t = is_found sessions.slots t

-- a train whose phase is closed has no record
pub closed_is_absent : (sessions : Records) (t : ℕ) → IsOneATrain sessions → phase_at sessions t ≡ Closed
    → (k : ℕ) (r : Record) → get sessions k ≡ Some r → r.nid_engine ≢ t
closed_is_absent sessions t one closed k r at same =
    never r.is_up (sym (phase_of_found sessions k r one at) ∙ ap (phase_at sessions) same ∙ closed)
  where
    never : (b : _) → cond b Up Opened ≡ Closed → ⊥
    never true h = cc
    never false h = cc

-- the key of a train is that of its record
record_of_train : (sessions : Records) (key t : ℕ) → train_at sessions key ≡ Some t
    → (r : Record) × (get sessions key ≡ Some r) × (r.nid_engine ≡ t)
unfolding train_at
record_of_train sessions key t at = by_record (get sessions key) refl at
  where
    by_record : (o : Option Record) → get sessions key ≡ o → option_map (λ (r : Record). r.nid_engine) o ≡ Some t
        → (r : Record) × (get sessions key ≡ Some r) × (r.nid_engine ≡ t)
    by_record (Some r) is at = (r, is, same_Some r.nid_engine t at)
    by_record None is at = absurd (none-some t at)

-- no two keys are of one train
pub one_key : (sessions : Records) → IsOneATrain sessions → AtMostOneATrain sessions
one_key sessions one j k t at_j at_k =
    let p = record_of_train sessions j t at_j in
    let q = record_of_train sessions k t at_k in
    one j k p.0 q.0 p.1 q.1 (p.2 ∙ sym q.2)
