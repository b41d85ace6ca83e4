-- A line file to which no fault applies names a line.
use Rattle.std.proofs.Common.{[], ◌<◌, ◌||◌, ◌∙◌, ◌∷◌, ◌≡◌, ◌≤◌, ap, arith, Bool, false, inl, inr, IsTrue, List, ltb}
use Rattle.std.proofs.Common.{map, negsuc, None, Option, option_map, pos, refl, Some, subst, suc, sym, true, zero, ℕ, ℤ}
use Rattle.std.proofs.lemmas.Bool.{cases_Bool, cases_lt, false≢true}
use Rattle.std.proofs.lemmas.Bool.Decides.{nat_tests}
use Rattle.std.proofs.lemmas.Option.{none-some, same_Some, slice_get-map}
use Rattle.std.specs.List.{All, list_any, position, slice_get}
use Rattle.rbc_line.proofs.Lists.{position-cons}
use Rattle.rbc_line.specs.Faults.{has_count_fault, has_twice, is_outside}
use Rattle.rbc_line.specs.LineFile.{number}
use Rattle.rbc_spec.specs.Line.{AreDistinct}

pub or_false : (a b : Bool) → ((a || b) ≡ true → ⊥) → (a ≡ false) × (b ≡ false)
or_false true b h = absurd (h refl)
or_false false true h = absurd (h refl)
or_false false false h = (refl, refl)

pub not_true : (b : Bool) → (b ≡ true → ⊥) → b ≡ false
not_true true h = absurd (h refl)
not_true false h = refl

pub or_right : (a b : Bool) → b ≡ true → (a || b) ≡ true
or_right true b h = refl
or_right false b h = h

-- ## Counts, numbers and names

pub count_fits : (low high n : ℕ) → ¬ IsTrue (has_count_fault low high n) → (low ≤ n) × (n ≤ high)
unfolding has_count_fault
count_fits low high n none =
    let parts = or_false (ltb n low) (ltb high n) none in
    let a = parts.0 in
    let b = parts.1 in
    (grind (arith, nat_tests), grind (arith, nat_tests))

-- a number that is not outside a range
pub number_fits : (low high : ℕ) (z : ℤ) → is_outside low high z ≡ false
    → (low ≤ number z) × (number z ≤ high) × (z ≡ pos (number z))
number_fits low high (pos n) within =
    let parts = or_false (ltb n low) (ltb high n) (λ h. false≢true (sym within ∙ h)) in
    let a = parts.0 in
    let b = parts.1 in
    (grind (arith, nat_tests), grind (arith, nat_tests), refl)
number_fits low high (negsuc n) within = absurd (false≢true (sym within))

pub none_at : {X : Type 0} (p : X → Bool) (xs : List X) (i : ℕ) (x : X) → list_any p xs ≡ false
    → slice_get xs i ≡ Some x → p x ≡ false
none_at p [] i x none at = absurd (none-some x at)
none_at p (y ∷ ys) zero x none at =
    subst (λ v. p v ≡ false) (same_Some y x at) (or_false (p y) (list_any p ys) (λ h. false≢true (sym none ∙ h))).0
none_at p (y ∷ ys) (suc i) x none at =
    none_at p ys i x (or_false (p y) (list_any p ys) (λ h. false≢true (sym none ∙ h))).1 at

-- from each element's fact to all elements of a list made from it
pub All-made : {X Y : Type 0} (P : Y → Type 0) (f : X → Y) (xs : List X)
    → ((i : ℕ) (x : X) → slice_get xs i ≡ Some x → P (f x)) → All P (map f xs)
All-made P f [] holds k d h = absurd (omega arith)
All-made P f (x ∷ xs) holds zero d h = holds 0 x refl
All-made P f (x ∷ xs) holds (suc k) d h = All-made P f xs (λ i. holds (suc i)) k d (omega arith)

-- ## Values that occur once

pub some_at : {X : Type 0} (p : X → Bool) (xs : List X) (i : ℕ) (x : X) → slice_get xs i ≡ Some x → p x ≡ true
    → list_any p xs ≡ true
some_at p [] i x at holds = absurd (none-some x at)
some_at p (y ∷ ys) zero x at holds = let here : p y ≡ true = subst (λ v. p v ≡ true) (sym (same_Some y x at)) holds in
    rw here
some_at p (y ∷ ys) (suc i) x at holds = or_right (p y) (list_any p ys) (some_at p ys i x at holds)

twice_at : {K : Type 0} (same : K → K → Bool) (xs : List K) (i j : ℕ) (x y : K) → i < j → slice_get xs i ≡ Some x
    → slice_get xs j ≡ Some y → same x y ≡ true → has_twice same xs ≡ true
twice_at same [] i j x y before at_i at_j equal = absurd (none-some x at_i)
twice_at same (z ∷ zs) i zero x y before at_i at_j equal = absurd (omega arith)
twice_at same (z ∷ zs) zero (suc j) x y before at_i at_j equal =
    let found = some_at (same z) zs j y at_j (subst (λ v. same v y ≡ true) (sym (same_Some z x at_i)) equal) in rw found
twice_at same (z ∷ zs) (suc i) (suc j) x y before at_i at_j equal =
    or_right (list_any (same z) zs) (has_twice same zs) (twice_at same zs i j x y (omega arith) at_i at_j equal)

-- in a list without a value twice, elements with the same value are the same
pub AreDistinct-from : {X K : Type 0} (same : K → K → Bool) (key : X → K) (xs : List X)
    → ((k l : K) → k ≡ l → same k l ≡ true) → has_twice same (map key xs) ≡ false → AreDistinct key xs
AreDistinct-from same key xs reflexive none = λ i j x y at_i at_j equal.
    let in_i = slice_get-map key xs i ∙ ap (option_map key) at_i in
    let in_j = slice_get-map key xs j ∙ ap (option_map key) at_j in
    elim (cases_lt i j) [
      | inl less ↦
          absurd
          (false≢true (sym none ∙ twice_at same (map key xs) i j (key x) (key y) less in_i in_j
          (reflexive (key x) (key y) equal)))
      | inr more ↦ elim (cases_lt j i) [
        | inl less ↦
            absurd
            (false≢true (sym none ∙ twice_at same (map key xs) j i (key y) (key x) less in_j in_i
            (reflexive (key y) (key x) (sym equal))))
        | inr other ↦ omega arith
      ]
    ]

-- ## Values that are made from an element

made_from : {X Y : Type 0} (f : X → Y) (o : Option X) (y : Y) → option_map f o ≡ Some y
    → (x : X) × (o ≡ Some x) × (f x ≡ y)
made_from f None y h = absurd (none-some y h)
made_from f (Some x) y h = (x, refl, same_Some (f x) y h)

-- the element that one of a list was made from
pub element_of : {X Y : Type 0} (f : X → Y) (xs : List X) (i : ℕ) (y : Y) → slice_get (map f xs) i ≡ Some y
    → (x : X) × (slice_get xs i ≡ Some x) × (f x ≡ y)
element_of f xs i y at = made_from f (slice_get xs i) y (sym (slice_get-map f xs i) ∙ at)

pub AreDistinct-made : {X Y K L : Type 0} (f : X → Y) (key : Y → K) (from : X → L) (xs : List X)
    → ((i j : ℕ) (x y : X) → slice_get xs i ≡ Some x → slice_get xs j ≡ Some y → key (f x) ≡ key (f y)
    → from x ≡ from y) → AreDistinct from xs → AreDistinct key (map f xs)
AreDistinct-made f key from xs back apart = λ i j p q at_i at_j equal.
    let x = element_of f xs i p at_i in
    let y = element_of f xs j q at_j in
    apart i j x.0 y.0 x.1 y.1 (back i j x.0 y.0 x.1 y.1 (ap key x.2 ∙ equal ∙ sym (ap key y.2)))

-- ## Places of names

-- a test that some element passes finds a place
pub position_found : {X : Type 0} (p : X → Bool) (xs : List X) → list_any p xs ≡ true
    → (i : ℕ) × (x : X) × (position p xs ≡ Some i) × (slice_get xs i ≡ Some x) × (p x ≡ true)
position_found p [] some = absurd (false≢true some)
position_found p (x ∷ xs) some =
    elim (cases_Bool (p x)) [
      | inl passes ↦ (0, x, position-cons p x xs ∙ rw passes, refl, passes)
      | inr fails ↦ let rest = position_found p xs (rw fails at some) in
          (suc rest.0, rest.1, position-cons p x xs ∙ rw (fails, rest.2), rest.3, rest.4)
    ]
