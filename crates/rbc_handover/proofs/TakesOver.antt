-- A centre takes over: each centre that has announced the train, and had no TakingOver yet, gets one.
use Rattle.std.proofs.Common.{[], ◌&&◌, ◌+◌, ◌<◌, ◌||◌, ◌∙◌, ◌∷◌, ◌≡◌, ◌≤◌, ap, arith, Bool, cond, false, get_or, inl}
use Rattle.std.proofs.Common.{inr, is_some, length, List, None, not, Option, option_map, refl, set, Some, suc, sym}
use Rattle.std.proofs.Common.{true, ℕ}
use Rattle.std.proofs.lemmas.Bool.{cases_lt, ltb-false}
use Rattle.std.proofs.lemmas.Bool.Decides.{eqb_tells}
use Rattle.std.proofs.lemmas.List.{get_or-set_other, get_or-set_same}
use Rattle.std.proofs.lemmas.Option.{none-some}
use Rattle.std.specs.List.{list_any, range_with_len}
use Rattle.std.specs.Option.{option_map_or}
use Rattle.rbc_handover.proofs.Expects.{by_states, expected_past, state_at, state_set}
use Rattle.rbc_handover.specs.Acceptings.{expectation_of}
use Rattle.rbc_handover.specs.declared.accepting.AcceptingState.{AcceptingState}
use Rattle.rbc_handover.specs.declared.announcers.Announcers.{Announcers}
use Rattle.rbc_handover.specs.Expectations.{expected_from, HasExpectations, is_to_be_told, is_told, telling}
use Rattle.rbc_handover.specs.Expectations.{with_expectations}
use Rattle.rbc_spec.proofs.Lists.{put_same}
use Rattle.rbc_spec.specs.Centre.{Centre, Expectation, is_expected}
use Rattle.rbc_spec.specs.Frame.{TakingOver}
use Rattle.rbc_spec.specs.Line.{is_centre, Line}
use Rattle.rbc_spec.specs.Maps.{has, put}
use Rattle.rbc_spec.specs.Rules.{take_over, taking}

-- ## One centre after another

-- the centres below a number have got it
pub record HasTold (old new : List (Option Expectation)) (i : ℕ) (are_told : List Bool) : Type 0 where
  pub told : (d : ℕ) → d < i → get_or are_told d false ≡ is_to_be_told (expected_from old d)
  pub not_told : (d : ℕ) → i ≤ d → get_or are_told d false ≡ false
  pub below : (d : ℕ) → d < i → expected_from new d ≡ option_map taking (expected_from old d)
  pub above : (d : ℕ) → i ≤ d → expected_from new d ≡ expected_from old d

module _ (old : List (Option Expectation)) (xs : List AcceptingState) (i : ℕ) (state next : AcceptingState)
    (within : i < length xs) (at : state ≡ get_or xs i state) where
  pub one_told : (are_told : List Bool) (is : Bool) → i < length are_told → HasTold old (by_states xs) i are_told
      → is ≡ is_to_be_told (expectation_of state) → expectation_of next ≡ option_map taking (expectation_of state)
      → HasTold old (by_states (set xs i next)) (i + 1) (set are_told i is)
  one_told are_told is fits has tells now =
      let here : expected_from old i ≡ expectation_of state =
      sym (has.above i (omega arith)) ∙ state_at xs i state next within at in
      record {
        told =
            λ d low. elim (eqb_tells d i) as (λ _. get_or (set are_told i is) d false
            ≡ is_to_be_told (expected_from old d)) [
              | inl e ↦ rw (e.1) (get_or-set_same are_told i is false fits ∙ tells ∙ ap is_to_be_told (sym here))
              | inr e ↦
                  let apart = e.1 in get_or-set_other are_told i d is false apart ∙ has.told d (omega (arith, apart))
            ];
        not_told = λ d high. get_or-set_other are_told i d is false (λ e. omega (arith, e))
            ∙ has.not_told d (omega arith);
        below =
            λ d low. state_set xs i state next within at (option_map taking (expected_from old i))
            (now ∙ ap (option_map taking) (sym here)) d
            ∙ elim (eqb_tells d i) as (λ _. put (expected_from (by_states xs)) i
            (option_map taking (expected_from old i)) d ≡ option_map taking (expected_from old d)) [
              | inl e ↦ rw (e.0) (ap (λ b. option_map taking (expected_from old b)) (sym e.1))
              | inr e ↦ let apart = e.1 in rw (e.0) (has.below d (omega (arith, apart)))
            ];
        above = λ d high. state_set xs i state next within at (expectation_of next) refl d
            ∙ elim (eqb_tells d i) as (λ _. put (expected_from (by_states xs)) i (expectation_of next) d
            ≡ expected_from old d) [
              | inl e ↦ let same = e.1 in absurd (let no : ⊥ = omega (arith, same) in no)
              | inr e ↦ rw (e.0) (has.above d (omega arith))
            ];
      }

module _ (old new : List (Option Expectation)) (i : ℕ) (are_told : List Bool) (has : HasTold old new i are_told)
    (all : length old ≤ i) (d : ℕ) where
  pub all_taken : expected_from new d ≡ option_map taking (expected_from old d)
  all_taken = elim (cases_lt d i) [
    | inl low ↦ has.below d low
    | inr high ↦
        has.above d high
        ∙ (expected_past old d (omega (arith, all, high))
        ∙ ap (option_map taking) (sym (expected_past old d (omega (arith, all, high)))))
  ]

  pub all_told : get_or are_told d false ≡ is_to_be_told (expected_from old d)
  all_told = elim (cases_lt d i) [
    | inl low ↦ has.told d low
    | inr high ↦ has.not_told d high ∙ ap is_to_be_told (sym (expected_past old d (omega (arith, all, high))))
  ]

-- a value of the list is one of a range of numbers
any_along : (xs : List (Option Expectation)) (a : ℕ) (f : ℕ → Option Expectation)
    → ((d : ℕ) → get_or xs d None ≡ f (a + d))
    → list_any is_some xs ≡ list_any (λ d. is_some (f d)) (range_with_len a (length xs))
any_along [] a f is = refl
any_along (x ∷ xs) a f is =
    let from : a + 0 ≡ a = omega arith in
    let first : x ≡ f a = is 0 ∙ ap f from in
    (λ i. is_some (first i) || any_along xs (a + 1) f (λ d. let next : a + suc d ≡ a + 1 + d = omega arith in
    is (suc d) ∙ ap f next) i)

-- ## By the rules

module _ (line : Line) (t : ℕ) (k : Centre) (e : List (Option Expectation)) (has_it : HasExpectations line t k e) where
  outside : (d : ℕ) → is_centre line d ≡ false → k.expects d t ≡ None
  outside d is = has_it.has d
      ∙ expected_past e d (let past = ltb-false d (length line.centres) is in omega (arith, past, has_it.count))

  module _ (d : ℕ) where
    frames_at : (b : Bool) (o : Option Expectation) → (b ≡ false → o ≡ None)
        → option_map_or (λ x. cond (b && has (λ y. not y.is_taking) o) (TakingOver x.number t ∷ []) []) o []
        ≡ cond (is_to_be_told o)
        (option_map_or (λ (x : Expectation). TakingOver x.number t ∷ []) (option_map taking o) []) []
    frames_at b None out = refl
    frames_at true (Some x) out = refl
    frames_at false (Some x) out = absurd (none-some x (sym (out refl)))

    state_at_train : (u : ℕ) (b : Bool) (o : Option Expectation) → k.expects d t ≡ o → (b ≡ false → o ≡ None)
        → cond (b && has (λ x. not x.is_taking) o) (put (k.expects d) t (option_map taking o)) (k.expects d) u
        ≡ put (k.expects d) t (option_map taking o) u
    state_at_train u true None is out = sym (put_same t None (k.expects d) is u)
    state_at_train u false None is out = sym (put_same t None (k.expects d) is u)
    state_at_train u false (Some x) is out = absurd (none-some x (sym (out refl)))
    state_at_train u true (Some x) is out = by x.is_taking refl
      where
        by : (v : Bool) → x.is_taking ≡ v
            → cond (not x.is_taking) (put (k.expects d) t (Some (taking x))) (k.expects d) u
            ≡ put (k.expects d) t (Some (taking x)) u
        by true told =
            ap (λ v. cond (not v) (put (k.expects d) t (Some (taking x))) (k.expects d) u) told
            ∙ sym (put_same t (Some (taking x)) (k.expects d) (is ∙ (λ i. Some (record x { is_taking = told i }))) u)
        by false told = ap (λ v. cond (not v) (put (k.expects d) t (Some (taking x))) (k.expects d) u) told

  pub takes_over : (after : List (Option Expectation)) (told : Announcers)
      → ((d : ℕ) → is_told told d ≡ is_to_be_told (expected_from e d))
      → ((d : ℕ) → expected_from after d ≡ option_map taking (expected_from e d))
      → take_over line t k ≡ telling t told (expected_from after) (with_expectations t after k)
  takes_over after told is now = λ i. record {
    state = record k {
      expects =
          λ d u. (state_at_train d u (is_centre line d) (k.expects d t) refl (outside d)
          ∙ ap (λ o. put (k.expects d) t o u) (ap (option_map taking) (has_it.has d) ∙ sym (now d))) i;
    };
    frames = λ d. (frames_at d (is_centre line d) (k.expects d t) (outside d)
        ∙ ap (λ o. cond (is_to_be_told o)
        (option_map_or (λ (x : Expectation). TakingOver x.number t ∷ []) (option_map taking o) []) []) (has_it.has d)
        ∙ (λ j. cond (sym (is d) j)
        (option_map_or (λ (x : Expectation). TakingOver x.number t ∷ []) (sym (now d) j) []) [])) i;
    sayings = [];
    words = [];
  }

  -- whether some centre has announced the train
  pub any_expected : list_any is_some e ≡ is_expected line k t
  unfolding expected_from
  any_expected =
      any_along e 0 (λ d. k.expects d t)
      (λ d. let from : d ≡ 0 + d = omega arith in sym (has_it.has d) ∙ ap (λ b. k.expects b t) from)
      ∙ ap (λ n. list_any (λ d. is_some (k.expects d t)) (range_with_len 0 n)) has_it.count
