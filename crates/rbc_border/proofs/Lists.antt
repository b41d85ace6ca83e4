-- Lists, tests and choices, and the longest run under a test.
use Rattle.std.proofs.Common.{[], ◌&&◌, ◌+◌, ◌<◌, ◌==◌, ◌∙◌, ◌∷◌, ◌≡◌, ◌≤◌, ap, arith, Bool, cond, false, inl, inr}
use Rattle.std.proofs.Common.{List, None, refl, Some, suc, sym, true, zero, ℕ}
use Rattle.std.proofs.lemmas.Bool.{cases_Bool, eq-eqb, eqb-true, ne_eqb}
use Rattle.std.specs.List.{filter, list_all, range_with_len}
use Rattle.rbc_spec.proofs.Runs.{longest_is, longest_only, same_tests, within_true}
use Rattle.rbc_spec.specs.SectionRuns.{longest}

-- # Laws of lists, tests, and choices.

pub and_true : (x : Bool) → (x && true) ≡ x
and_true true = refl
and_true false = refl

pub and_false : (x : Bool) → (x && false) ≡ false
and_false true = refl
and_false false = refl

-- tests that agree along a range leave the same of it
pub filter_same : (p q : ℕ → Bool) (a n : ℕ) → ((s : ℕ) → a ≤ s → s < a + n → p s ≡ q s)
    → filter p (range_with_len a n) ≡ filter q (range_with_len a n)
filter_same p q a zero same = refl
filter_same p q a (suc n) same =
    let rest = filter_same p q (a + 1) n (λ s above below. same s (omega arith) (omega arith)) in
    ap (λ b. cond b (a ∷ filter p (range_with_len (a + 1) n)) (filter p (range_with_len (a + 1) n)))
    (same a (omega arith) (omega arith))
    ∙ ap (λ xs. cond (q a) (a ∷ xs) xs) rest

shuffled : (a b x y : Bool) → ((a && b) && (x && y)) ≡ ((a && x) && (b && y))
shuffled true true x y = refl
shuffled true false true y = refl
shuffled true false false y = refl
shuffled false b x y = refl

-- all items pass two tests if and only if they pass each
pub both_all : (a b : ℕ → Bool) (xs : List ℕ) → list_all (λ s. a s && b s) xs ≡ (list_all a xs && list_all b xs)
both_all a b [] = refl
both_all a b (x ∷ xs) =
    ap (λ y. (a x && b x) && y) (both_all a b xs) ∙ shuffled (a x) (b x) (list_all a xs) (list_all b xs)

-- a choice without a value, if the test fails
pub none_chosen : {X : Type 0} (b : Bool) (x : X) → cond b (Some x) None ≡ None → b ≡ false
none_chosen true x e = cc
none_chosen false x e = refl

-- # The longest run under a test, section by section.

-- the first k sections pass
pub record HasPassed (test : ℕ → Bool) (from k : ℕ) : Type 0 where
  pub each : (s : ℕ) → from ≤ s → s < from + k → test s ≡ true

-- the next one fails
pub stops : (test : ℕ → Bool) (from most k s : ℕ) → s ≡ from + k → k < most → test s ≡ false → HasPassed test from k
    → k ≡ longest test from most
stops test from most k s is lt fails so_far =
    longest_only test from most k (longest test from most)
    (record {
      fits = omega arith;
      each = λ j in_run. let ends = within_true (record { first = from; count = k }) j in_run in
          so_far.each j ends.0 ends.1;
      ends = λ more. ap test (sym is) ∙ fails;
    })
    (longest_is test from most)

-- all pass
pub all_passed : (test : ℕ → Bool) (from most k : ℕ) → k ≤ most → most ≤ k → HasPassed test from k
    → most ≡ longest test from most
all_passed test from most k few lt so_far =
    longest_only test from most most (longest test from most)
    (record {
      fits = omega arith;
      each = λ j in_run. let ends = within_true (record { first = from; count = most }) j in_run in
          so_far.each j ends.0 (omega arith);
      ends = λ more. absurd (let no : ⊥ = omega arith in no);
    })
    (longest_is test from most)

-- all of them pass if and only if the longest run has that length
pub full : (test : ℕ → Bool) (from n : ℕ) → (longest test from n == n) ≡ list_all test (range_with_len from n)
unfolding longest
full test from zero = refl
full test from (suc n) = elim (cases_Bool (test from)) [
  | inl passes ↦ rw passes (one_more (longest test (from + 1) n) n ∙ full test (from + 1) n)
  | inr fails ↦ rw fails (ne_eqb 0 (suc n) (λ e. let no : ⊥ = omega (arith, e) in no))
]
  where
    one_more : (a b : ℕ) → (suc a == suc b) ≡ (a == b)
    one_more a b = same_tests (suc a == suc b) (a == b)
        (λ h. let e : suc a ≡ suc b = eqb-true (suc a) (suc b) h in eq-eqb a b (omega (arith, e)))
        (λ h. let e : a ≡ b = eqb-true a b h in eq-eqb (suc a) (suc b) (omega (arith, e)))

-- of two tests, one after the other
pub longest_both : (a b : ℕ → Bool) (from most : ℕ)
    → longest (λ s. a s && b s) from most ≡ longest b from (longest a from most)
unfolding longest
longest_both a b from zero = refl
longest_both a b from (suc most) = elim (cases_Bool (a from)) [
  | inl passes ↦ rw passes (ap (λ n. cond (b from) (suc n) 0) (longest_both a b (from + 1) most))
  | inr fails ↦ rw fails refl
]

-- tests that agree have the same longest run
pub longest_same : (a b : ℕ → Bool) (from most : ℕ) → ((s : ℕ) → a s ≡ b s) → longest a from most ≡ longest b from most
longest_same a b from most same = ap (λ (test : ℕ → Bool). longest test from most) (λ i s. same s i)
