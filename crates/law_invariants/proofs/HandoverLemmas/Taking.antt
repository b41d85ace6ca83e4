-- The acts of the accepting centre: it expects the train, takes over, and takes the mission.
use Rattle.std.proofs.Common.{[], ⊎_elim, ◌&&◌, ◌+◌, ◌==◌, ◌∙◌, ◌∷◌, ◌≡◌, ◌≢◌, ◌≤◌, All, ap, arith, Bool, false}
use Rattle.std.proofs.Common.{if◌then◌else◌, inl, List, None, not, Option, option_map, refl, Some, subst, sym, true, ℕ}
use Rattle.std.proofs.lemmas.Bool.{and_parts, cases_eq, ne_eqb}
use Rattle.std.proofs.lemmas.List.Elements.{All-cons, All-nil}
use Rattle.std.specs.Option.{option_map_or}
use Rattle.law_base.proofs.CountingLemmas.Chain.{chain_still}
use Rattle.law_base.proofs.CountingLemmas.Sums.{put_other, put_same}
use Rattle.law_base.specs.Counting.Sums.{one_if}
use Rattle.law_invariants.proofs.HandoverLemmas.Orderly.{Goes}
use Rattle.law_invariants.specs.Flow.Pairs.{announces, count_if, follows, handing_to, takes_over, yields}
use Rattle.law_invariants.specs.Handover.Orderly.{IsTaking, number_announced, number_expected, waiting}
use Rattle.rbc_spec.proofs.Lists.{itself, put_pair_there}
use Rattle.rbc_spec.specs.Centre.{Centre, Expectation}
use Rattle.rbc_spec.specs.Frame.{Body, TakingOver}
use Rattle.rbc_spec.specs.Line.{is_centre, Line}
use Rattle.rbc_spec.specs.Maps.{has, put, put_pair}
use Rattle.rbc_spec.specs.Rules.{take_over, taking}

-- ## It takes over

module _ (line : Line) (t : ℕ) (k : Centre) where
  abbrev is_new : ℕ → Bool
  is_new d = is_centre line d && has (λ e. not e.is_taking) (k.expects d t)

  -- the expectation from one centre, and the frames to it
  abbrev now : Bool → (ℕ → Option Expectation) → ℕ → Option Expectation
  now new row = if new then put row t (option_map taking (row t)) else row

  abbrev sent : Bool → Option Expectation → List Body
  sent new o = option_map_or (λ e. if new then TakingOver e.number t ∷ [] else []) o []

  -- a test of bodies that none of these passes
  sent_none : (test : Body → Bool) → ((n : ℕ) → test (TakingOver n t) ≡ false) → (new : Bool) (o : Option Expectation)
      → count_if test (sent new o) ≡ 0
  sent_none test none new None = refl
  sent_none test none false (Some e) = refl
  sent_none test none true (Some e) = omega (arith, ap one_if (none e.number))

  sent_all : (P : Body → Type 0) → ((n : ℕ) → P (TakingOver n t)) → (new : Bool) (o : Option Expectation)
      → All P (sent new o)
  sent_all P all new None = All-nil P
  sent_all P all false (Some e) = All-nil P
  sent_all P all true (Some e) = All-cons P (TakingOver e.number t) [] (all e.number) (All-nil P)

  number_same : (new : Bool) (row : ℕ → Option Expectation) (u : ℕ)
      → number_expected (now new row u) ≡ number_expected (row u)
  number_same false row u = refl
  number_same true row u = ⊎_elim
      (λ (here : u ≡ t). subst (λ v. number_expected (put row t (option_map taking (row t)) v)
      ≡ number_expected (row v)) (sym here)
      (ap number_expected (put_same row t (option_map taking (row t))) ∙ by_one (row t)))
      (λ (other : u ≢ t). ap number_expected (put_other row t (option_map taking (row t)) u other))
      (cases_eq u t)
    where
      by_one : (o : Option Expectation) → number_expected (option_map taking o) ≡ number_expected o
      by_one None = refl
      by_one (Some e) = refl

  waits_less : (new : Bool) (row : ℕ → Option Expectation) (u h : ℕ)
      → (new ≡ true → has (λ e. not e.is_taking) (row t) ≡ true)
      → waiting h (now new row u) + count_if (takes_over u h) (sent new (row t)) ≤ waiting h (row u)
  waits_less false row u h so = omega (arith, none_sent (row t))
    where
      none_sent : (o : Option Expectation) → count_if (takes_over u h) (sent false o) ≡ 0
      none_sent None = refl
      none_sent (Some e) = refl
  waits_less true row u h so = ⊎_elim
      (λ (here : u ≡ t). subst (λ v. waiting h (put row t (option_map taking (row t)) v)
      + count_if (takes_over v h) (sent true (row t)) ≤ waiting h (row v)) (sym here)
      (omega (arith, ap (waiting h) (put_same row t (option_map taking (row t))), by_one (row t) (so refl))))
      (λ (other : u ≢ t). omega (
        arith,
        ap (waiting h) (put_other row t (option_map taking (row t)) u other),
        sent_none (takes_over u h) (λ n. ap (λ b. b && (n == h)) (ne_eqb t u (λ same. other (sym same)))) true (row t),
      ))
      (cases_eq u t)
    where
      by_tests : (same taking_so own : Bool) → not taking_so ≡ true → own ≡ true
          → one_if (same && not true) + one_if (own && same) ≤ one_if (same && not taking_so)
      by_tests true false true is own = omega arith
      by_tests false false true is own = omega arith
      by_tests same true own is here = cc
      by_tests same taking_so false is own = cc

      by_one : (o : Option Expectation) → has (λ e. not e.is_taking) o ≡ true
          → waiting h (option_map taking o) + count_if (takes_over t h) (sent true o) ≤ waiting h o
      by_one None is = omega arith
      by_one (Some e) is = omega (arith, by_tests (e.number == h) e.is_taking (t == t) is (itself t))

  pub goes_take_over : Goes k (take_over line t k)
  goes_take_over = record {
    leads = λ d u. chain_still (follows u) (sent (is_new d) (k.expects d t))
        (number_announced (handing_to d (k.mission u)))
        (sent_all (λ f. follows u f (number_announced (handing_to d (k.mission u)))
        ≡ Some (number_announced (handing_to d (k.mission u)))) (λ n. refl) (is_new d) (k.expects d t));
    expected = λ a u. number_same (is_new a) (k.expects a) u;
    announced = omega arith;
    yielded = λ d u h. inl (sent_none (yields u h) (λ n. refl) (is_new d) (k.expects d t));
    anew = λ d u h. inl (sent_none (announces u h) (λ n. refl) (is_new d) (k.expects d t));
    takes = λ a u h. waits_less (is_new a) (k.expects a) u h
        (λ new. (and_parts (is_centre line a) (has (λ e. not e.is_taking) (k.expects a t)) new).1);
  }

-- ## It expects a train from a, as frame f requires

module _ (a t : ℕ) (f : Body) (e : Option Expectation) (k y : Centre) (expects : y.expects ≡ put_pair k.expects a t e)
    (announced : y.announced ≡ k.announced)
    (handing : (b u : ℕ) → handing_to b (y.mission u) ≡ handing_to b (k.mission u))
    (other_train : (u : ℕ) (n : Option ℕ) → u ≢ t → follows u f n ≡ Some n)
    (leads : follows t f (number_expected (k.expects a t)) ≡ Some (number_expected e)) (waits : (h : ℕ)
    → waiting h e ≤ waiting h (k.expects a t) + one_if (announces t h f)) where
  there : y.expects a t ≡ e
  there = ap (λ (g : ℕ → ℕ → Option Expectation). g a t) expects ∙ put_pair_there k.expects a t e

  other : (u : ℕ) → u ≢ t → y.expects a u ≡ k.expects a u
  other u apart = ap (λ (g : ℕ → ℕ → Option Expectation). g a u) expects
      ∙ ap (λ (row : ℕ → Option Expectation). row u) (put_same k.expects a (put (k.expects a) t e))
      ∙ put_other (k.expects a) t e u apart

  pub expect_taking : IsTaking a f k y
  expect_taking = record {
    leads = λ u. ⊎_elim
        (λ (here : u ≡ t). subst (λ v. follows v f (number_expected (k.expects a v))
        ≡ Some (number_expected (y.expects a v))) (sym here) (leads
        ∙ ap (λ o. Some (number_expected o)) (sym there)))
        (λ (apart : u ≢ t). other_train u (number_expected (k.expects a u)) apart
        ∙ ap (λ o. Some (number_expected o)) (sym (other u apart)))
        (cases_eq u t);
    expected = λ i u apart. ap (λ (g : ℕ → ℕ → Option Expectation). g i u) expects
        ∙ ap (λ (row : ℕ → Option Expectation). row u) (put_other k.expects a (put (k.expects a) t e) i apart);
    waits = λ u h. ⊎_elim
        (λ (here : u ≡ t). subst (λ v. waiting h (y.expects a v) ≤ waiting h (k.expects a v) + one_if (announces v h f))
        (sym here) (omega (arith, ap (waiting h) there, waits h)))
        (λ (apart : u ≢ t). omega (arith, ap (waiting h) (other u apart)))
        (cases_eq u t);
    announced = announced;
    number = λ u. ap number_announced (handing a u);
    handing = λ b u apart. handing b u;
  }
