-- Functions of numbers: a change at one place, and sums over all numbers below a bound, as over the centres.
use Rattle.std.specs.Prelude.{ℕ, zero, suc, ◌+◌, Bool, ◌==◌, if◌then◌else◌}

-- f with v in the place of k
abbrev pub put : {A : Type 0} → (ℕ → A) → ℕ → A → ℕ → A
put f k v j = if j == k then v else f j

-- f with v in the place of the link from a to b
abbrev pub put_link : {A : Type 0} → (ℕ → ℕ → A) → ℕ → ℕ → A → ℕ → ℕ → A
put_link f a b v = put f a (put (f a) b v)

-- 1 if the test holds, so that a sum counts
abbrev pub one_if : Bool → ℕ
one_if b = if b then 1 else 0

-- the sum of f over the numbers below n
unfoldable pub sum_below : ℕ → (ℕ → ℕ) → ℕ
sum_below zero f = 0
sum_below (suc n) f = sum_below n f + f n

-- the sum of f over the links between any two numbers below n
unfoldable pub sum_links : ℕ → (ℕ → ℕ → ℕ) → ℕ
sum_links n f = sum_below n (λ a. sum_below n (f a))
