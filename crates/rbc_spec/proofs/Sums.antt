-- Sums over the first items of a list that pass a test.
use Rattle.std.proofs.Common.{[], ◌+◌, ◌∙◌, ◌∷◌, ◌≡◌, ◌≤◌, ap, arith, Bool, false, filter, List, slice_get, Some, suc}
use Rattle.std.proofs.Common.{take, true, zero, ℕ, ⊎_elim}
use Rattle.std.proofs.lemmas.Bool.{cases_Bool, cond-false, cond-true}
use Rattle.std.proofs.lemmas.List.Sums.{sum_by-cons}
use Rattle.std.proofs.lemmas.Option.{same_Some}
use Rattle.std.specs.List.{sum_by}

module _ {X : Type 0} (f : X → ℕ) (test : X → Bool) where
  -- the sum over those of the first i items that pass
  abbrev pub sum_up_to : List X → ℕ → ℕ
  sum_up_to xs i = sum_by f (filter test (take i xs))

  pub sum_kept : (x : X) (xs : List X) → test x ≡ true
      → sum_by f (filter test (x ∷ xs)) ≡ f x + sum_by f (filter test xs)
  sum_kept x xs passes = ap (sum_by f) (cond-true (test x) (x ∷ filter test xs) (filter test xs) passes)
      ∙ sum_by-cons f x (filter test xs)

  pub sum_left : (x : X) (xs : List X) → test x ≡ false → sum_by f (filter test (x ∷ xs)) ≡ sum_by f (filter test xs)
  sum_left x xs fails = ap (sum_by f) (cond-false (test x) (x ∷ filter test xs) (filter test xs) fails)

  -- an item that passes adds its own value
  pub sum_next : (xs : List X) (i : ℕ) (x : X) → slice_get xs i ≡ Some x → test x ≡ true
      → sum_up_to xs (i + 1) ≡ sum_up_to xs i + f x
  sum_next [] i x at passes = cc
  sum_next (y ∷ ys) zero x at passes =
      let is : y ≡ x = same_Some y x at in
      sum_kept y [] (ap test is ∙ passes) ∙ (omega (arith, ap f is))
  sum_next (y ∷ ys) (suc i) x at passes =
      let rest : sum_up_to ys (i + 1) ≡ sum_up_to ys i + f x = sum_next ys i x at passes in
      let e : suc i + 1 ≡ suc (i + 1) = omega arith in
      ap (sum_up_to (y ∷ ys)) e ∙ ⊎_elim
      (λ (is : test y ≡ true). rw (sum_kept y (take (i + 1) ys) is, sum_kept y (take i ys) is) (omega (arith, rest)))
      (λ (no : test y ≡ false). rw (sum_left y (take (i + 1) ys) no, sum_left y (take i ys) no) rest)
      (cases_Bool (test y))

  -- the sum does not fall if there are more items
  pub sum_rises : (xs : List X) (i j : ℕ) → i ≤ j → sum_up_to xs i ≤ sum_up_to xs j
  sum_rises xs zero j le = omega arith
  sum_rises [] (suc i) j le = omega arith
  sum_rises (y ∷ ys) (suc i) zero le = absurd (omega arith)
  sum_rises (y ∷ ys) (suc i) (suc j) le = ⊎_elim
      (λ (is : test y ≡ true). rw (sum_kept y (take i ys) is, sum_kept y (take j ys) is)
      (omega (arith, sum_rises ys i j (omega arith))))
      (λ (no : test y ≡ false). rw (sum_left y (take i ys) no, sum_left y (take j ys) no)
      (sum_rises ys i j (omega arith)))
      (cases_Bool (test y))
