-- The expectations of a centre after a change of one of them, and by the acts of the rules.
use Rattle.std.proofs.Common.{[], ◌++◌, ◌<◌, ◌||◌, ◌∙◌, ◌∷◌, ◌≡◌, ◌≤◌, ap, arith, Bool, cond, false, get_or, inl, inr}
use Rattle.std.proofs.Common.{is_none, is_some, length, List, map, None, Option, refl, set, slice_get, Some, suc, sym}
use Rattle.std.proofs.Common.{true, zero, ℕ}
use Rattle.std.proofs.lemmas.Bool.Decides.{eqb_tells}
use Rattle.std.proofs.lemmas.List.{get_or-map, get_or-set_other, get_or-set_same, get_or_past, length-map, map-set}
use Rattle.std.specs.List.{list_any}
use Rattle.std.specs.Option.{option_and_then}
use Rattle.rbc_handover.specs.Acceptings.{expectation_of}
use Rattle.rbc_handover.specs.declared.accepting.AcceptingState.{AcceptingState}
use Rattle.rbc_handover.specs.declared.accepting.AcceptingState.TheVariants.{Nothing}
use Rattle.rbc_handover.specs.Expectations.{announced_as, ended_under, expected_from, HasExpectations}
use Rattle.rbc_handover.specs.Expectations.{with_expectations}
use Rattle.rbc_spec.proofs.Lists.{put_here, put_other, put_same}
use Rattle.rbc_spec.specs.Acts.{rest}
use Rattle.rbc_spec.specs.Centre.{Centre, Expectation}
use Rattle.rbc_spec.specs.Line.{Line}
use Rattle.rbc_spec.specs.Links.{announced, cancelled, expect, is_under}
use Rattle.rbc_spec.specs.Maps.{put, put_pair}

-- ## In memory

-- nothing is expected from a centre that is none of the line
pub expected_past : (e : List (Option Expectation)) (d : ℕ) → length e ≤ d → expected_from e d ≡ None
unfolding expected_from
expected_past e d past = get_or_past e d None past

expected_set : (e : List (Option Expectation)) (i : ℕ) (o : Option Expectation) → i < length e → (d : ℕ)
    → expected_from (set e i o) d ≡ put (expected_from e) i o d
unfolding expected_from
expected_set e i o within d = elim (eqb_tells d i) as (λ _. expected_from (set e i o) d ≡ put (expected_from e) i o d) [
  | inl x ↦ rw (x.0, x.1) (get_or-set_same e i o None within)
  | inr x ↦ rw (x.0) (get_or-set_other e i d o None x.1)
]

-- the expectations of these states
abbrev pub by_states : List AcceptingState → List (Option Expectation)
by_states xs = map expectation_of xs

within_by_states : (xs : List AcceptingState) (i : ℕ) → i < length xs → i < length (by_states xs)
within_by_states xs i within = let long : length (by_states xs) ≡ length xs = length-map xs expectation_of in
    omega (arith, long, within)

-- a position of the expectations is one of the states
pub within_states : (xs : List AcceptingState) (e : List (Option Expectation)) (i : ℕ) → by_states xs ≡ e → i < length e
    → i < length xs
within_states xs e i view within = let long : length e ≡ length xs =
    ap length (sym view) ∙ length-map xs expectation_of in omega (arith, long, within)

pub past_states : (xs : List AcceptingState) (e : List (Option Expectation)) (i : ℕ) → by_states xs ≡ e → length xs ≤ i
    → length e ≤ i
past_states xs e i view past = let long : length e ≡ length xs = ap length (sym view) ∙ length-map xs expectation_of in
    omega (arith, long, past)

-- the expectation that is looked up
pub looked_up : (xs : List AcceptingState) (i : ℕ)
    → option_and_then expectation_of (slice_get xs i) ≡ expected_from (by_states xs) i
unfolding expected_from
looked_up [] i = refl
looked_up (x ∷ xs) zero = refl
looked_up (x ∷ xs) (suc i) = looked_up xs i

-- whether something is expected
pub any_state : (xs : List AcceptingState)
    → list_any is_some (by_states xs) ≡ list_any (λ state. is_some (expectation_of state)) xs
any_state [] = refl
any_state (x ∷ xs) = ap (λ b. is_some (expectation_of x) || b) (any_state xs)

-- one more of which nothing is expected
pub nothing_more : (xs : List AcceptingState) → ((d : ℕ) → expected_from (by_states xs) d ≡ None) → (d : ℕ)
    → expected_from (by_states (xs ++ Nothing ∷ [])) d ≡ None
unfolding expected_from
nothing_more [] none zero = refl
nothing_more [] none (suc d) = refl
nothing_more (x ∷ xs) none zero = none zero
nothing_more (x ∷ xs) none (suc d) = nothing_more xs (λ b. none (suc b)) d

pub nothing_first : (xs : List AcceptingState) → xs ≡ [] → (d : ℕ) → expected_from (by_states xs) d ≡ None
nothing_first xs none d =
    expected_past (by_states xs) d (let long : length (by_states xs) ≡ 0 = ap (λ ys. length (by_states ys)) none in
    omega (arith, long))

module _ (xs : List AcceptingState) (i : ℕ) (old new : AcceptingState) (within : i < length xs)
    (at : old ≡ get_or xs i old) where
  pub state_at : expected_from (by_states xs) i ≡ expectation_of old
  unfolding expected_from
  state_at = get_or-map expectation_of xs i old None within ∙ ap expectation_of (sym at)

  pub state_set : (o : Option Expectation) → expectation_of new ≡ o → (d : ℕ)
      → expected_from (by_states (set xs i new)) d ≡ put (expected_from (by_states xs)) i o d
  state_set o is d =
      let inside : i < length (by_states xs) = within_by_states xs i within in
      ap (λ e. expected_from e d) (map-set expectation_of xs i new)
      ∙ expected_set (by_states xs) i (expectation_of new) inside d
      ∙ ap (λ x. put (expected_from (by_states xs)) i x d) is

  -- the state of one centre is another now
  pub changed : (f : Option Expectation → Option Expectation) → expectation_of new ≡ f (expectation_of old)
      → (d : ℕ) → expected_from (by_states (set xs i new)) d
      ≡ put (expected_from (by_states xs)) i (f (expected_from (by_states xs) i)) d
  changed f is = state_set (f (expected_from (by_states xs) i)) (is ∙ ap f (sym state_at))

-- a change of a missing expectation changes nothing
pub none_changed : (e : List (Option Expectation)) (i : ℕ) (o : Option Expectation) → length e ≤ i → o ≡ None → (d : ℕ)
    → expected_from e d ≡ put (expected_from e) i o d
none_changed e i o past none d = sym (put_same i o (expected_from e) (expected_past e i past ∙ sym none) d)

-- ## By the rules

module _ (line : Line) (t : ℕ) (k : Centre) (e after : List (Option Expectation))
    (has : HasExpectations line t k e) where
  pub rests : ((d : ℕ) → expected_from after d ≡ expected_from e d) → rest k ≡ rest (with_expectations t after k)
  rests same =
      λ i.
      rest
      (record k {
        expects = λ d u.
            sym (put_same t (expected_from after d) (k.expects d) (has.has d ∙ sym (same d)) u) i;
      })

  pub expects_now : (from : ℕ) (o : Option Expectation)
      → ((d : ℕ) → expected_from after d ≡ put (expected_from e) from o d)
      → expect from t o k ≡ rest (with_expectations t after k)
  expects_now from o is = λ i. rest (record k { expects = λ d u. each d u i })
    where
      each : (d u : ℕ) → put_pair k.expects from t o d u ≡ put (k.expects d) t (expected_from after d) u
      each d u =
          elim (eqb_tells d from) as (λ _. put_pair k.expects from t o d u
          ≡ put (k.expects d) t (expected_from after d) u) [
            | inl x ↦
                let here : expected_from after d ≡ o = is d ∙ put_here (expected_from e) from d o x.1 in
                rw (x.0) (λ i. put (k.expects (sym x.1 i)) t (sym here i) u)
            | inr x ↦
                let other : expected_from after d ≡ expected_from e d =
                is d ∙ put_other (expected_from e) from d o x.1 in
                rw (x.0) (sym (put_same t (expected_from after d) (k.expects d) (has.has d ∙ sym other) u))
          ]

  by_test : (b : Bool) (from : ℕ) (o : Option Expectation)
      → ((d : ℕ) → expected_from after d ≡ put (expected_from e) from (cond b o (expected_from e from)) d)
      → cond b (expect from t o k) (rest k) ≡ rest (with_expectations t after k)
  by_test true from o is = expects_now from o is
  by_test false from o is = rests (λ d. is d ∙ put_same from (expected_from e from) (expected_from e) refl d)

  pub announces : (from number : ℕ)
      → ((d : ℕ) → expected_from after d ≡ put (expected_from e) from (announced_as number (expected_from e from)) d)
      → announced from number t k ≡ rest (with_expectations t after k)
  announces from number is =
      let o : Option Expectation = Some (record { number = number; is_taking = false }) in
      ap (λ x. cond (is_none x) (expect from t o k) (rest k)) (has.has from)
      ∙ by_test (is_none (expected_from e from)) from o is

  pub cancels : (from number : ℕ)
      → ((d : ℕ) → expected_from after d ≡ put (expected_from e) from (ended_under number (expected_from e from)) d)
      → cancelled from number t k ≡ rest (with_expectations t after k)
  cancels from number is =
      ap (λ x. cond (is_under number x) (expect from t None k) (rest k)) (has.has from)
      ∙ by_test (is_under number (expected_from e from)) from None is
