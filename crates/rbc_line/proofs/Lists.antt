-- Searches through lists.
use Rattle.std.proofs.Common.{[], ◌*◌, ◌+◌, ◌<◌, ◌||◌, ◌∙◌, ◌∷◌, ◌≡◌, ◌≢◌, ◌≤◌, ap, arith, below_more, Bool, cond}
use Rattle.std.proofs.Common.{false, get_or, get_or-set_other, get_or-set_same, inl, inr, length, length-set, List, ltb}
use Rattle.std.proofs.Common.{map, None, not, Option, option_map, refl, set, Some, subst, suc, sym, take, true, zero, ℕ}
use Rattle.std.proofs.lemmas.Bool.{cases_Bool}
use Rattle.std.proofs.lemmas.Bool.Decides.{nat_tests}
use Rattle.std.proofs.lemmas.List.{get_or-map, length-map}
use Rattle.std.proofs.lemmas.List.Folds.{find_at}
use Rattle.std.proofs.lemmas.List.Sums.{prefix_len-le-length, sum_by-cons}
use Rattle.std.proofs.lemmas.Option.{cond_some, none-some, same_Some, slice_get-map, slice_get_past}
use Rattle.std.specs.List.{All, filter, find, list_any, position, position_or_len, prefix_len, slice_get, sum_by, zip}
use Rattle.rbc_spec.specs.Line.{AreDistinct}

pub prefix_len-map : {X Y : Type 0} (p : Y → Bool) (f : X → Y) (xs : List X)
    → prefix_len p (map f xs) ≡ prefix_len (λ x. p (f x)) xs
prefix_len-map p f [] = refl
prefix_len-map p f (x ∷ xs) = ap (λ n. cond (p (f x)) (1 + n) 0) (prefix_len-map p f xs)

pub position-map : {X Y : Type 0} (p : Y → Bool) (f : X → Y) (xs : List X)
    → position p (map f xs) ≡ position (λ x. p (f x)) xs
position-map p f xs =
    let e = prefix_len-map (λ y. not (p y)) f xs in
    let m : length (map f xs) ≡ length xs = length-map xs f in
    rw (e, m)

-- without a position a search finds nothing
pub find-position_none : {X : Type 0} (p : X → Bool) (xs : List X) → position p xs ≡ None → find p xs ≡ None
find-position_none p xs none =
    let within = prefix_len-le-length (λ x. not (p x)) xs in
    let past : length xs ≤ position_or_len p xs = grind (arith, nat_tests) in
    find_at p xs ∙ slice_get_past xs (position_or_len p xs) past

-- a search finds the element at the position
pub find-position_some : {X : Type 0} (p : X → Bool) (xs : List X) (i : ℕ) → position p xs ≡ Some i
    → find p xs ≡ slice_get xs i
find-position_some p xs i found =
    find_at p xs ∙ ap (slice_get xs)
    (cond_some (ltb (position_or_len p xs) (length xs)) (position_or_len p xs) i found).1

-- no pair passes whose first part fails
pub find-zip_none : {X Y : Type 0} (p : X × Y → Bool) (xs : List X) (ys : List Y)
    → ((i : ℕ) (x : X) (y : Y) → slice_get xs i ≡ Some x → p (x, y) ≡ false) → find p (zip xs ys) ≡ None
find-zip_none p [] ys fails = refl
find-zip_none p (x ∷ xs) [] fails = refl
find-zip_none p (x ∷ xs) (y ∷ ys) fails = rw (fails 0 x y refl) (find-zip_none p xs ys (λ i. fails (suc i)))

-- a part of a list of small numbers has a small sum
pub sum_by-filter_le : {X : Type 0} (f : X → ℕ) (p : X → Bool) (xs : List X)
    → ((i : ℕ) (x : X) → slice_get xs i ≡ Some x → f x ≤ 2000) → sum_by f (filter p xs) ≤ 2000 * length xs
sum_by-filter_le f p [] small = omega arith
sum_by-filter_le f p (x ∷ xs) small =
    let rest = sum_by-filter_le f p xs (λ i. small (suc i)) in
    let here = small 0 x refl in
    elim (cases_Bool (p x)) [
      | inl passes ↦ rw passes (rw (sum_by-cons f x (filter p xs)) (omega arith))
      | inr fails ↦ rw fails (omega arith)
    ]

-- ## A search, one element at a time

pub position-cons : {X : Type 0} (p : X → Bool) (x : X) (xs : List X)
    → position p (x ∷ xs) ≡ cond (p x) (Some 0) (option_map suc (position p xs))
position-cons p x xs =
    elim (cases_Bool (p x)) [
      | inl passes ↦ rw passes (grind (arith, nat_tests))
      | inr fails ↦ rw fails (grind (arith, nat_tests))
    ]

later_step : (first here : Bool) (i : ℕ) (before after : Option ℕ)
    → cond here (Some i) before ≡ after
    → (here ≡ true → cond first (Some 0) (option_map suc before) ≡ None)
    → cond here (Some (suc i)) (cond first (Some 0) (option_map suc before))
    ≡ cond first (Some 0) (option_map suc after)
later_step true true i before after e none = absurd (none-some 0 (sym (none refl)))
later_step true false i before after e none = refl
later_step false true i before after e none = ap (option_map suc) e
later_step false false i before after e none = ap (option_map suc) e

none_later : (first : Bool) (o : Option ℕ) → cond first (Some 0) (option_map suc o) ≡ None → o ≡ None
none_later true o h = absurd (none-some 0 (sym h))
none_later false None h = refl
none_later false (Some x) h = absurd (none-some (suc x) (sym h))

-- one more element, if the search has found nothing before and that element passes
pub position_more : {X : Type 0} (p : X → Bool) (xs : List X) (i : ℕ) (x : X) → slice_get xs i ≡ Some x
    → (p x ≡ true → position p (take i xs) ≡ None)
    → cond (p x) (Some i) (position p (take i xs)) ≡ position p (take (suc i) xs)
position_more p [] i x at none = absurd (none-some x at)
position_more p (y ∷ ys) zero x at none =
    let same : y ≡ x = same_Some y x at in
    rw (same, position-cons p x [])
position_more p (y ∷ ys) (suc i) x at none =
    rw (position-cons p y (take i ys), position-cons p y (take (suc i) ys))
    (later_step (p y) (p x) i (position p (take i ys)) (position p (take (suc i) ys))
    (position_more p ys i x at
    (λ passes. none_later (p y) (position p (take i ys)) (sym (position-cons p y (take i ys)) ∙ none passes)))
    (λ passes. sym (position-cons p y (take i ys)) ∙ none passes))

-- nothing passes, so nothing is found
pub position_none : {X : Type 0} (p : X → Bool) (xs : List X)
    → ((i : ℕ) (x : X) → slice_get xs i ≡ Some x → p x ≡ false) → position p xs ≡ None
position_none p [] fails = refl
position_none p (x ∷ xs) fails =
    rw (position-cons p x xs, fails 0 x refl) (ap (option_map suc) (position_none p xs (λ i. fails (suc i))))

pub zip-map : {X Y : Type 0} (f : X → Y) (xs ys : List X)
    → zip (map f xs) (map f ys) ≡ map (λ (s : X × X). (f s.0, f s.1)) (zip xs ys)
zip-map f [] ys = refl
zip-map f (x ∷ xs) [] = refl
zip-map f (x ∷ xs) (y ∷ ys) = ap (λ s. (f x, f y) ∷ s) (zip-map f xs ys)

pub list_any-map : {X Y : Type 0} (p : Y → Bool) (f : X → Y) (xs : List X)
    → list_any p (map f xs) ≡ list_any (λ x. p (f x)) xs
list_any-map p f [] = refl
list_any-map p f (x ∷ xs) = ap (λ b. p (f x) || b) (list_any-map p f xs)

find-cond : {X Y : Type 0} (b : Bool) (f : X → Y) (x : X) (o : Option X)
    → cond b (Some (f x)) (option_map f o) ≡ option_map f (cond b (Some x) o)
find-cond true f x o = refl
find-cond false f x o = refl

pub find-map : {X Y : Type 0} (p : Y → Bool) (f : X → Y) (xs : List X)
    → find p (map f xs) ≡ option_map f (find (λ x. p (f x)) xs)
find-map p f [] = refl
find-map p f (x ∷ xs) = ap (cond (p (f x)) (Some (f x))) (find-map p f xs)
    ∙ find-cond (p (f x)) f x (find (λ x. p (f x)) xs)

-- ## Places

pub slice_get_take : {X : Type 0} (i : ℕ) (xs : List X) (j : ℕ) (y : X) → slice_get (take i xs) j ≡ Some y
    → (j < i) × (slice_get xs j ≡ Some y)
slice_get_take zero xs j y h = absurd (none-some y h)
slice_get_take (suc i) [] j y h = absurd (none-some y h)
slice_get_take (suc i) (x ∷ xs) zero y h = (omega arith, h)
slice_get_take (suc i) (x ∷ xs) (suc j) y h = let rest = slice_get_take i xs j y h in (omega (arith, rest.0), rest.1)

-- a table written up to a place, and there
pub table_more : {X : Type 0} (f : ℕ → X) (xs : List X) (n k : ℕ) (d x : X) → length xs ≡ n → k < n
    → ((j : ℕ) → j < k → get_or xs j d ≡ f j) → x ≡ f k
    → (length (set xs k x) ≡ n) × ((j : ℕ) → j < k + 1 → get_or (set xs k x) j d ≡ f j)
table_more f xs n k d x len within before here =
    let lt : k < length xs = omega arith in (
      length-set xs k x ∙ len,
      below_more _ _ (λ j h. let ne : j ≢ k = omega arith in rw get_or-set_other (before j h))
          (rw get_or-set_same here),
    )

pub All-unmap : {X Y : Type 0} (P : Y → Type 0) (f : X → Y) (xs : List X) → All P (map f xs) → All (λ x. P (f x)) xs
All-unmap P f xs holds k d h =
    let len : length (map f xs) ≡ length xs = length-map xs f in
    subst P (get_or-map f xs k d (f d) h) (holds k (f d) (omega arith))

pub AreDistinct-unmap : {X Y : Type 0} (key : Y → ℕ) (f : X → Y) (xs : List X) → AreDistinct key (map f xs)
    → AreDistinct (λ x. key (f x)) xs
AreDistinct-unmap key f xs apart = λ i j x y a b e.
    apart i j (f x) (f y) (slice_get-map f xs i ∙ ap (option_map f) a) (slice_get-map f xs j ∙ ap (option_map f) b) e

-- the first element that passes
pub position_at : {X : Type 0} (p : X → Bool) (xs : List X) (i : ℕ) (x : X) → slice_get xs i ≡ Some x → p x ≡ true
    → ((j : ℕ) (y : X) → j < i → slice_get xs j ≡ Some y → p y ≡ false) → position p xs ≡ Some i
position_at p [] i x at passes before = absurd (none-some x at)
position_at p (y ∷ ys) zero x at passes before =
    let same : y ≡ x = same_Some y x at in
    rw (same, position-cons p x ys, passes)
position_at p (y ∷ ys) (suc i) x at passes before =
    rw (position-cons p y ys, before 0 y (omega arith) refl)
    (ap (option_map suc) (position_at p ys i x at passes (λ j z lt h. before (suc j) z (omega arith) h)))
