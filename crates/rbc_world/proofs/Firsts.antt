-- The first item that gives something: at the head or after it, in a range of numbers, and in a list after its first
-- items.
use Rattle.std.proofs.Common.{[], ◌++◌, ◌+◌, ◌-◌, ◌<◌, ◌∙◌, ◌∷◌, ◌≡◌, ◌≤◌, add-one, ap, arith, drop, length, List, None}
use Rattle.std.proofs.Common.{Option, refl, slice_get, Some, suc, sym, zero, ℕ}
use Rattle.std.proofs.lemmas.List.Elements.{filter_map-append}
use Rattle.std.proofs.Math.ListN.{drop_of_length-le}
use Rattle.std.specs.List.{cons_option, filter_map, flat_map, range_with_len}
use Rattle.std.specs.Option.{option_and_then, option_or}
use Rattle.rbc_world.specs.Missions.{first_given}

-- ## Lists

-- in one list or the next
pub first_of_two : {Y : Type 0} (xs ys : List Y) → slice_get (xs ++ ys) 0 ≡ option_or (slice_get xs 0) (slice_get ys 0)
first_of_two [] ys = refl
first_of_two (x ∷ xs) ys = refl

head_or : {Y : Type 0} (o : Option Y) (ys : List Y) → slice_get (cons_option o ys) 0 ≡ option_or o (slice_get ys 0)
head_or (Some y) ys = refl
head_or None ys = refl

-- at the head, or after it
at_head : {X Y : Type 0} (g : X → Option Y) (x : X) (xs : List X)
    → first_given g (x ∷ xs) ≡ option_or (g x) (first_given g xs)
at_head g x xs = head_or (g x) (filter_map g xs)

pub in_either : {X Y : Type 0} (g : X → Option Y) (xs ys : List X)
    → first_given g (xs ++ ys) ≡ option_or (first_given g xs) (first_given g ys)
in_either g xs ys =
    ap (λ l. slice_get l 0) (filter_map-append g xs ys) ∙ first_of_two (filter_map g xs) (filter_map g ys)

-- of many lists, in the first that has one
pub in_lists : {X Y Z : Type 0} (g : X → Option Y) (f : Z → List X) (zs : List Z)
    → first_given g (flat_map f zs) ≡ first_given (λ z. first_given g (f z)) zs
in_lists g f [] = refl
in_lists g f (z ∷ zs) =
    in_either g (f z) (flat_map f zs) ∙ ap (option_or (first_given g (f z))) (in_lists g f zs)
    ∙ sym (at_head (λ x. first_given g (f x)) z zs)

-- ## A range of numbers, from c on, below n

abbrev pub first_from : {Y : Type 0} → (ℕ → Option Y) → ℕ → ℕ → Option Y
first_from g c n = first_given g (range_with_len c (n - c))

pub from_none : {Y : Type 0} (g : ℕ → Option Y) (n : ℕ) → first_given g (range_with_len 0 n) ≡ first_from g 0 n
from_none g n = let all : n ≡ n - 0 = omega arith in ap (λ k. first_given g (range_with_len 0 k)) all

from_one : {Y : Type 0} (g : ℕ → Option Y) (c n : ℕ) → c < n
    → first_from g c n ≡ option_or (g c) (first_from g (c + 1) n)
from_one g c n within = let some : n - c ≡ suc (n - (c + 1)) = omega arith in
    ap (λ k. first_given g (range_with_len c k)) some ∙ at_head g c (range_with_len (c + 1) (n - (c + 1)))

pub found_here : {Y : Type 0} (g : ℕ → Option Y) (c n : ℕ) (y : Y) → c < n → g c ≡ Some y → first_from g c n ≡ Some y
found_here g c n y within is = from_one g c n within ∙ ap (λ o. option_or o (first_from g (c + 1) n)) is

pub found_later : {Y : Type 0} (g : ℕ → Option Y) (c n : ℕ) → c < n → g c ≡ None
    → first_from g c n ≡ first_from g (c + 1) n
found_later g c n within is = from_one g c n within ∙ ap (λ o. option_or o (first_from g (c + 1) n)) is

pub found_nowhere : {Y : Type 0} (g : ℕ → Option Y) (c n : ℕ) → n ≤ c → first_from g c n ≡ None
found_nowhere g c n past = let none : n - c ≡ 0 = omega arith in ap (λ k. first_given g (range_with_len c k)) none

-- ## A list after its first i items

after_suc : {X Y : Type 0} (g : X → Option Y) (xs : List X) (i : ℕ) → i < length xs
    → first_given g (drop i xs) ≡ option_or (option_and_then g (slice_get xs i)) (first_given g (drop (suc i) xs))
after_suc g [] i within = absurd (let no : ⊥ = omega arith in no)
after_suc g (x ∷ xs) zero within = at_head g x xs
after_suc g (x ∷ xs) (suc i) within = after_suc g xs i (omega arith)

-- the item at i gives it, or one after
after_one : {X Y : Type 0} (g : X → Option Y) (xs : List X) (i : ℕ) → i < length xs
    → first_given g (drop i xs) ≡ option_or (option_and_then g (slice_get xs i)) (first_given g (drop (i + 1) xs))
after_one g xs i within =
    after_suc g xs i within ∙ ap (λ k. option_or (option_and_then g (slice_get xs i)) (first_given g (drop k xs)))
    (sym (add-one i))

pub given_here : {X Y : Type 0} (g : X → Option Y) (xs : List X) (i : ℕ) (y : Y) → i < length xs
    → option_and_then g (slice_get xs i) ≡ Some y → first_given g (drop i xs) ≡ Some y
given_here g xs i y within is = after_one g xs i within ∙ ap (λ o. option_or o (first_given g (drop (i + 1) xs))) is

pub given_later : {X Y : Type 0} (g : X → Option Y) (xs : List X) (i : ℕ) → i < length xs
    → option_and_then g (slice_get xs i) ≡ None → first_given g (drop i xs) ≡ first_given g (drop (i + 1) xs)
given_later g xs i within is = after_one g xs i within ∙ ap (λ o. option_or o (first_given g (drop (i + 1) xs))) is

pub given_nowhere : {X Y : Type 0} (g : X → Option Y) (xs : List X) (i : ℕ) → length xs ≤ i
    → first_given g (drop i xs) ≡ None
given_nowhere g xs i past = ap (first_given g) (drop_of_length-le xs past)
