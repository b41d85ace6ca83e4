-- Laws of sums below a bound.
use Rattle.std.proofs.Common.{⊎_elim, ◌+◌, ◌<◌, ◌==◌, ◌∙◌, ◌≡◌, ◌≢◌, ◌≤◌, ◌⊎◌, ap, arith, Bool, eq-eqb, false, inl, inr}
use Rattle.std.proofs.Common.{ne_eqb, refl, suc, sym, true, zero, ℕ}
use Rattle.std.proofs.lemmas.Bool.{cases_eq, cond-false, cond-true}
use Rattle.law_base.specs.Counting.Sums.{one_if, put, put_link, sum_below, sum_links}

-- reading a changed function at the place of the change
pub put_same : {A : Type 0} (f : ℕ → A) (k : ℕ) (v : A) → put f k v k ≡ v
put_same f k v = cond-true (k == k) v (f k) (eq-eqb k k refl)

-- reading it at another place
pub put_other : {A : Type 0} (f : ℕ → A) (k : ℕ) (v : A) (j : ℕ) → j ≢ k → put f k v j ≡ f j
put_other f k v j apart = cond-false (j == k) v (f j) (ne_eqb j k apart)

-- a value read from each entry stays, if it is the same at the changed entry
pub put_keeps : {A B : Type 0} (read : ℕ → A → B) (f : ℕ → A) (k : ℕ) (v : A) → read k v ≡ read k (f k) → (j : ℕ)
    → read j (put f k v j) ≡ read j (f j)
put_keeps read f k v same j = ⊎_elim
    (λ (here : j ≡ k). ap (λ i. read i (put f k v i)) here ∙ ap (read k) (put_same f k v) ∙ same
    ∙ sym (ap (λ i. read i (f i)) here))
    (λ (apart : j ≢ k). ap (read j) (put_other f k v j apart))
    (cases_eq j k)

-- the same for a link
pub put_link_same : {A : Type 0} (f : ℕ → ℕ → A) (a b : ℕ) (v : A) → put_link f a b v a b ≡ v
put_link_same f a b v = ap (λ row. row b) (put_same f a (put (f a) b v)) ∙ put_same (f a) b v

-- and for another link
pub put_link_other : {A : Type 0} (f : ℕ → ℕ → A) (a b : ℕ) (v : A) (i j : ℕ) → (i ≡ a → j ≢ b)
    → put_link f a b v i j ≡ f i j
put_link_other f a b v i j apart = ⊎_elim
    (λ (here : i ≡ a). ap (λ k. put f a (put (f a) b v) k j) here ∙ ap (λ row. row j) (put_same f a (put (f a) b v))
    ∙ put_other (f a) b v j (apart here) ∙ sym (ap (λ k. f k j) here))
    (λ (elsewhere : i ≢ a). ap (λ row. row j) (put_other f a (put (f a) b v) i elsewhere))
    (cases_eq i a)

-- two links are one link or they are apart
pub cases_link : (i j a b : ℕ) → ((i ≡ a) × (j ≡ b)) ⊎ (i ≡ a → j ≢ b)
cases_link i j a b = ⊎_elim
    (λ (from : i ≡ a). ⊎_elim (λ (to : j ≡ b). inl (from, to)) (λ (apart : j ≢ b). inr (λ _. apart)) (cases_eq j b))
    (λ (apart : i ≢ a). inr (λ from. absurd (apart from)))
    (cases_eq i a)

-- a test that holds counts for one
pub one_if_true : (b : Bool) → b ≡ true → one_if b ≡ 1
one_if_true b holds = ap one_if holds

-- a test that fails counts for nothing
pub one_if_false : (b : Bool) → b ≡ false → one_if b ≡ 0
one_if_false b fails = ap one_if fails

-- a test that counts holds
pub one_if_some : (b : Bool) → 0 < one_if b → b ≡ true
one_if_some true some = refl
one_if_some false some = absurd (omega arith)

-- a test counts for one at most
pub one_if_le_one : (b : Bool) → one_if b ≤ 1
one_if_le_one true = omega arith
one_if_le_one false = omega arith

-- a test that follows from another counts for at least as much
pub one_if_le : (a b : Bool) → (a ≡ true → b ≡ true) → one_if a ≤ one_if b
one_if_le true b to = omega (arith, one_if_true b (to refl))
one_if_le false b to = omega arith

-- no terms
pub sum_none : (f : ℕ → ℕ) → sum_below 0 f ≡ 0
unfolding sum_below
sum_none f = refl

-- one term more
pub sum_more : (n : ℕ) (f : ℕ → ℕ) → sum_below (suc n) f ≡ sum_below n f + f n
unfolding sum_below
sum_more n f = refl

-- sums of terms that agree
pub sum_same : (n : ℕ) (f g : ℕ → ℕ) → ((k : ℕ) → k < n → f k ≡ g k) → sum_below n f ≡ sum_below n g
sum_same zero f g same = sum_none f ∙ sym (sum_none g)
sum_same (suc n) f g same =
    omega (arith, sum_more n f, sum_more n g, sum_same n f g (λ k below. same k (omega arith)), same n (omega arith))

-- sums of terms of which each is at most the other
pub sum_le : (n : ℕ) (f g : ℕ → ℕ) → ((k : ℕ) → k < n → f k ≤ g k) → sum_below n f ≤ sum_below n g
sum_le zero f g le = omega (arith, sum_none f, sum_none g)
sum_le (suc n) f g le =
    omega (arith, sum_more n f, sum_more n g, sum_le n f g (λ k below. le k (omega arith)), le n (omega arith))

-- the sum of sums
pub sum_plus : (n : ℕ) (f g : ℕ → ℕ) → sum_below n (λ k. f k + g k) ≡ sum_below n f + sum_below n g
sum_plus zero f g = omega (arith, sum_none f, sum_none g, sum_none (λ k. f k + g k))
sum_plus (suc n) f g = omega (arith, sum_more n f, sum_more n g, sum_more n (λ k. f k + g k), sum_plus n f g)

-- a sum of nothing
pub sum_zero : (n : ℕ) (f : ℕ → ℕ) → ((k : ℕ) → k < n → f k ≡ 0) → sum_below n f ≡ 0
sum_zero zero f none = sum_none f
sum_zero (suc n) f none =
    omega (arith, sum_more n f, sum_zero n f (λ k below. none k (omega arith)), none n (omega arith))

-- a change at one place changes the sum by that much
pub sum_put : (n : ℕ) (f : ℕ → ℕ) (k v : ℕ) → k < n → sum_below n (put f k v) + f k ≡ sum_below n f + v
sum_put zero f k v below = absurd (omega arith)
sum_put (suc n) f k v below = ⊎_elim
    (λ (last : k ≡ n). sum_put_last n f k v last)
    (λ (earlier : k ≢ n). omega (
      arith,
      sum_more n f,
      sum_more n (put f k v),
      put_other f k v n (λ e. earlier (sym e)),
      sum_put n f k v (omega arith),
    ))
    (cases_eq k n)
  where
    sum_put_last : (n : ℕ) (f : ℕ → ℕ) (k v : ℕ) → k ≡ n
        → sum_below (suc n) (put f k v) + f k ≡ sum_below (suc n) f + v
    sum_put_last n f k v last =
        omega (
          arith,
          sum_more n f,
          sum_more n (put f k v),
          ap (put f k v) last,
          put_same f k v,
          ap f last,
          sum_same n (put f k v) f (λ j small. put_other f k v j (omega arith)),
        )

-- a change of one entry under a sum: g is read at the entries
pub sum_put_by : {A : Type 0} (n : ℕ) (g : ℕ → A → ℕ) (f : ℕ → A) (k : ℕ) (v : A) → k < n
    → sum_below n (λ j. g j (put f k v j)) + g k (f k) ≡ sum_below n (λ j. g j (f j)) + g k v
sum_put_by n g f k v below =
    ap (λ s. s + g k (f k)) (sum_same n (λ j. g j (put f k v j)) (put (λ j. g j (f j)) k (g k v)) (λ j small. read j))
    ∙ sum_put n (λ j. g j (f j)) k (g k v) below
  where
    read : (j : ℕ) → g j (put f k v j) ≡ put (λ i. g i (f i)) k (g k v) j
    read j = ⊎_elim
        (λ (here : j ≡ k). ap (λ i. g i (put f k v i)) here ∙ ap (g k) (put_same f k v)
        ∙ sym (ap (put (λ i. g i (f i)) k (g k v)) here ∙ put_same (λ i. g i (f i)) k (g k v)))
        (λ (apart : j ≢ k). ap (g j) (put_other f k v j apart) ∙ sym (put_other (λ i. g i (f i)) k (g k v) j apart))
        (cases_eq j k)

-- each term is at most the sum
pub term_le_sum : (n : ℕ) (f : ℕ → ℕ) (k : ℕ) → k < n → f k ≤ sum_below n f
term_le_sum n f k below = omega (arith, sum_put n f k 0 below)

-- two terms together are at most the sum
pub two_le_sum : (n : ℕ) (f : ℕ → ℕ) (j k : ℕ) → j < n → k < n → j ≢ k → f j + f k ≤ sum_below n f
two_le_sum n f j k small below apart =
    omega (arith, sum_put n f k 0 below, put_other f k 0 j apart, term_le_sum n (put f k 0) j small)

-- if all other terms are zero, the sum is the one term
pub sum_only : (n : ℕ) (f : ℕ → ℕ) (k : ℕ) → k < n → ((j : ℕ) → j < n → j ≢ k → f j ≡ 0) → sum_below n f ≡ f k
sum_only n f k below others =
    omega (
      arith,
      sum_put n f k 0 below,
      sum_zero n (put f k 0) (λ j small.
          ⊎_elim (λ (here : j ≡ k). ap (put f k 0) here ∙ put_same f k 0)
          (λ (apart : j ≢ k). put_other f k 0 j apart ∙ others j small apart) (cases_eq j k)),
    )

-- a sum that is something has a term that is something
pub sum_some : (n : ℕ) (f : ℕ → ℕ) → 0 < sum_below n f → (k : ℕ) × (k < n) × (0 < f k)
sum_some zero f some = absurd (omega (arith, sum_none f))
sum_some (suc n) f some = ⊎_elim
    (λ (none : f n ≡ 0). let low = sum_some n f (omega (arith, sum_more n f)) in (low.0, omega (arith, low.1), low.2))
    (λ (here : f n ≢ 0). (n, omega arith, omega arith))
    (cases_eq (f n) 0)

-- sums over links: as those over numbers
pub links_same : (n : ℕ) (f g : ℕ → ℕ → ℕ) → ((a b : ℕ) → a < n → b < n → f a b ≡ g a b)
    → sum_links n f ≡ sum_links n g
unfolding sum_links
links_same n f g same = sum_same n (λ a. sum_below n (f a)) (λ a. sum_below n (g a))
    (λ a small. sum_same n (f a) (g a) (λ b below. same a b small below))

-- a sum of nothing over links
pub links_zero : (n : ℕ) (f : ℕ → ℕ → ℕ) → ((a b : ℕ) → a < n → b < n → f a b ≡ 0) → sum_links n f ≡ 0
unfolding sum_links
links_zero n f none = sum_zero n (λ a. sum_below n (f a))
    (λ a small. sum_zero n (f a) (λ b below. none a b small below))

-- a change on one link changes the sum by that much
pub links_put : (n : ℕ) (f : ℕ → ℕ → ℕ) (a b v : ℕ) → a < n → b < n
    → sum_links n (put_link f a b v) + f a b ≡ sum_links n f + v
unfolding sum_links
links_put n f a b v small below =
    omega (arith, sum_put_by n (λ j row. sum_below n row) f a (put (f a) b v) small, sum_put n (f a) b v below)

-- a change on all links from a
pub links_put_row : (n : ℕ) (f : ℕ → ℕ → ℕ) (a : ℕ) (row : ℕ → ℕ) → a < n
    → sum_links n (put f a row) + sum_below n (f a) ≡ sum_links n f + sum_below n row
unfolding sum_links
links_put_row n f a row small = sum_put_by n (λ j r. sum_below n r) f a row small

-- the sum over one centre's links is at most that over all
pub row_le_links : (n : ℕ) (f : ℕ → ℕ → ℕ) (a : ℕ) → a < n → sum_below n (f a) ≤ sum_links n f
unfolding sum_links
row_le_links n f a small = term_le_sum n (λ i. sum_below n (f i)) a small

-- the value of one link is at most the sum
pub link_le_links : (n : ℕ) (f : ℕ → ℕ → ℕ) (a b : ℕ) → a < n → b < n → f a b ≤ sum_links n f
link_le_links n f a b small below = omega (arith, row_le_links n f a small, term_le_sum n (f a) b below)

-- a sum over links that is something has a link that has something
pub links_some : (n : ℕ) (f : ℕ → ℕ → ℕ) → 0 < sum_links n f → (a : ℕ) × (b : ℕ) × (a < n) × (b < n) × (0 < f a b)
unfolding sum_links
links_some n f some =
    let from = sum_some n (λ a. sum_below n (f a)) some in
    let to = sum_some n (f from.0) from.2 in
    (from.0, to.0, from.1, to.1, to.2)

-- the values of two links together are at most the sum
pub two_links_le : (n : ℕ) (f : ℕ → ℕ → ℕ) (a b c d : ℕ) → a < n → b < n → c < n → d < n → (a ≡ c → b ≢ d)
    → f a b + f c d ≤ sum_links n f
two_links_le n f a b c d small below small' below' apart =
    omega (
      arith,
      links_put n f c d 0 small' below',
      put_link_other f c d 0 a b apart,
      link_le_links n (put_link f c d 0) a b small below,
    )
