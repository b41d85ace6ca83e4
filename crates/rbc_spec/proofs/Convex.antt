-- The numbers that pass a convex test are a run.
use Rattle.std.proofs.Common.{[], ◌&&◌, ◌+◌, ◌<◌, ◌∙◌, ◌∷◌, ◌≡◌, ◌≤◌, ap, arith, Bool, false, filter, length, List}
use Rattle.std.proofs.Common.{nat_lt, refl, suc, sym, true, zero, ℕ, ⊎_elim}
use Rattle.std.proofs.lemmas.Bool.{and_left, and_right, both_ways, cases_Bool, cases_eq, cases_lt, cond-false}
use Rattle.std.proofs.lemmas.Bool.{cond-true, false_from_ne_true, le-leb, le-ltb, lt-leb, lt-ltb}
use Rattle.std.specs.List.{range_with_len}
use Rattle.rbc_spec.specs.SectionRuns.{run_of, within}

-- the two cases of a test
by_test : {P : Type 0} (b : Bool) → (b ≡ true → P) → (b ≡ false → P) → P
by_test b f g = ⊎_elim f g (cases_Bool b)

by_same : {P : Type 0} (m n : ℕ) → (m ≡ n → P) → ((m ≡ n → ⊥) → P) → P
by_same m n f g = ⊎_elim f g (cases_eq m n)

-- each number between two numbers that pass passes too
abbrev pub IsConvex : (ℕ → Bool) → Type 0
IsConvex test = (s m e : ℕ) → s ≤ m → m ≤ e → test s ≡ true → test e ≡ true → test m ≡ true

-- the numbers that pass, of the n numbers from a on
abbrev pub found : (ℕ → Bool) → ℕ → ℕ → List ℕ
found test a n = filter test (range_with_len a n)

found_kept : (test : ℕ → Bool) (a n : ℕ) → test a ≡ true → found test a (suc n) ≡ a ∷ found test (a + 1) n
found_kept test a n passes = cond-true (test a) _ _ passes

found_left : (test : ℕ → Bool) (a n : ℕ) → test a ≡ false → found test a (suc n) ≡ found test (a + 1) n
found_left test a n fails = cond-false (test a) _ _ fails

-- at most n numbers are found
few_found : (test : ℕ → Bool) (a n : ℕ) → length (found test a n) ≤ n
few_found test a zero = omega arith
few_found test a (suc n) = by_test (test a)
    (λ (passes : test a ≡ true). rw (found_kept test a n passes) (omega (arith, few_found test (a + 1) n)))
    (λ (fails : test a ≡ false). rw (found_left test a n fails) (omega (arith, few_found test (a + 1) n)))

before_run : (a count s : ℕ) → s < a → within (record { first = a; count = count }) s ≡ false
unfolding within
before_run a count s low = and_left _ _ (lt-leb a s low)

after_run : (a count s : ℕ) → a + count ≤ s → within (record { first = a; count = count }) s ≡ false
unfolding within
after_run a count s high = and_right _ _ (le-ltb s (a + count) high)

-- nothing is found before the first number, nor after the last
none_before : (test : ℕ → Bool) (a n s : ℕ) → s < a → within (run_of (found test a n)) s ≡ false
none_before test a zero s low = after_run 0 0 s (omega arith)
none_before test a (suc n) s low = by_test (test a)
    (λ (passes : test a ≡ true). rw (found_kept test a n passes) (before_run a _ s low))
    (λ (fails : test a ≡ false). rw (found_left test a n fails) (none_before test (a + 1) n s (omega arith)))

none_after : (test : ℕ → Bool) (a n s : ℕ) → a + n ≤ s → within (run_of (found test a n)) s ≡ false
none_after test a zero s high = after_run 0 0 s (omega arith)
none_after test a (suc n) s high = by_test (test a)
    (λ (passes : test a ≡ true). rw (found_kept test a n passes)
    (after_run a (length (found test (a + 1) n) + 1) s (omega (arith, few_found test (a + 1) n))))
    (λ (fails : test a ≡ false). rw (found_left test a n fails) (none_after test (a + 1) n s (omega arith)))

-- if no number passes, none is found
none_found : (test : ℕ → Bool) (a n : ℕ) → ((s : ℕ) → a ≤ s → test s ≡ false) → found test a n ≡ []
none_found test a zero none = refl
none_found test a (suc n) none =
    found_left test a n (none a (omega arith)) ∙ none_found test (a + 1) n (λ s low. none s (omega arith))

-- if the numbers before one that passes pass too, those that pass are the first ones
first_found : (test : ℕ → Bool) (a n : ℕ) → ((s m : ℕ) → a ≤ m → m ≤ s → test s ≡ true → test m ≡ true)
    → (s : ℕ) → a ≤ s → s < a + n → nat_lt s (a + length (found test a n)) ≡ test s
first_found test a zero closed s low high = absurd (omega arith)
first_found test a (suc n) closed s low high = by_test (test a)
    (λ (passes : test a ≡ true). by_same s a
    (λ (here : s ≡ a). lt-ltb s _ (rw (found_kept test a n passes) (omega arith)) ∙ sym passes ∙ ap test (sym here))
    (λ (apart : s ≡ a → ⊥). later passes (found_kept test a n passes)
    (first_found test (a + 1) n (λ t m from to is. closed t m (omega arith) to is) s (omega arith) (omega arith))))
    (λ (fails : test a ≡ false).
    let none : (t : ℕ) → a ≤ t → test t ≡ false =
    λ t from. false_from_ne_true (test t) (λ is. both_ways (test a) fails (closed t a (omega arith) from is)) in
    rw (none_found test a (suc n) none) (le-ltb s (a + 0) (omega arith) ∙ sym (none s low)))
  where
    later : test a ≡ true → found test a (suc n) ≡ a ∷ found test (a + 1) n
        → nat_lt s (a + 1 + length (found test (a + 1) n)) ≡ test s
        → nat_lt s (a + length (found test a (suc n))) ≡ test s
    later passes is rest =
        let e : a + length (found test a (suc n)) ≡ a + 1 + length (found test (a + 1) n) = rw is (omega arith) in
        ap (λ b. nat_lt s b) e ∙ rest

-- if the first number passes, the run begins with it
starts : (test : ℕ → Bool) (a n s : ℕ) → a ≤ s → test a ≡ true → nat_lt s (a + length (found test a (suc n))) ≡ test s
    → within (run_of (found test a (suc n))) s ≡ test s
unfolding within
starts test a n s low passes rest =
    let is = found_kept test a n passes in
    let e : a + (length (found test (a + 1) n) + 1) ≡ a + length (found test a (suc n)) = rw is (omega arith) in
    ap (λ xs. within (run_of xs) s) is
    ∙ ap (λ b. b && nat_lt s (a + (length (found test (a + 1) n) + 1))) (le-leb a s low) ∙ ap (λ b. nat_lt s b) e ∙ rest

-- the numbers that pass a convex test, of n numbers, are a run
pub convex_run : (test : ℕ → Bool) (a n : ℕ) → IsConvex test
    → (s : ℕ) → a ≤ s → s < a + n → within (run_of (found test a n)) s ≡ test s
convex_run test a zero convex s low high = absurd (omega arith)
convex_run test a (suc n) convex s low high = by_test (test a)
    (λ (passes : test a ≡ true). starts test a n s low passes
    (first_found test a (suc n) (λ t m from to is. convex a m t from to passes is) s low high))
    (λ (fails : test a ≡ false). rw (found_left test a n fails) (by_same s a
    (λ (here : s ≡ a). none_before test (a + 1) n s (omega arith) ∙ sym fails ∙ ap test (sym here))
    (λ (apart : s ≡ a → ⊥). convex_run test (a + 1) n convex s (omega arith) (omega arith))))

-- the numbers from 0 that pass a convex test are a run, if no number after the last passes
pub convex_run_of : (test : ℕ → Bool) (n s : ℕ) → IsConvex test → (n ≤ s → test s ≡ false)
    → within (run_of (found test 0 n)) s ≡ test s
convex_run_of test n s convex outside = ⊎_elim
    (λ (low : s < n). convex_run test 0 n convex s (omega arith) (omega arith))
    (λ (high : n ≤ s). none_after test 0 n s (omega arith) ∙ sym (outside high))
    (cases_lt s n)
