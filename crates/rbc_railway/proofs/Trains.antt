-- Trains by their names.
use Rattle.std.proofs.Common.{if◌then◌else◌, eq-eqb, [], ◌++◌, ◌<◌, ◌==◌, ◌||◌, ◌∙◌, ◌∷◌, ◌≡◌, ap, arith, Bool, false}
use Rattle.std.proofs.Common.{inl, inr, length, List}
use Rattle.std.proofs.Common.{◌⊎◌, is_some, None, Option, refl, set, slice_get, Some, subst, suc, sym, true, zero, ℕ}
use Rattle.std.proofs.lemmas.Bool.{cond-false, cond-true, ne_eqb}
use Rattle.std.proofs.lemmas.Bool.Decides.{eqb_tells}
use Rattle.std.specs.Option.{IfNone}
use Rattle.law_trains.specs.Trains.{IsNew, Train}
use Rattle.rbc_railway.specs.declared.train.RunningTrain.{RunningTrain}
use Rattle.rbc_railway.specs.History.{AreNew, first_of, HaveOwnNames, is_named, name_of, names_of, nobody, train_at}
use Rattle.rbc_spec.proofs.Lists.{put_here, put_other}
use Rattle.rbc_spec.specs.Maps.{put}

-- ## Lists

pub at_same : {X : Type 0} (xs : List X) (i : ℕ) (x : X) → i < length xs → slice_get (set xs i x) i ≡ Some x
at_same [] i x h = absurd (let no : ⊥ = omega arith in no)
at_same (y ∷ ys) zero x h = refl
at_same (y ∷ ys) (suc i) x h = at_same ys i x (omega arith)

pub at_other : {X : Type 0} (xs : List X) (i j : ℕ) (x : X) → (j ≡ i → ⊥)
    → slice_get (set xs i x) j ≡ slice_get xs j
at_other [] i j x h = refl
at_other (y ∷ ys) zero zero x h = absurd (h refl)
at_other (y ∷ ys) zero (suc j) x h = refl
at_other (y ∷ ys) (suc i) zero x h = refl
at_other (y ∷ ys) (suc i) (suc j) x h = at_other ys i j x (λ e. h (ap suc e))

-- an item of a list with one more is of the list, or is the last
pub at_end : {X : Type 0} (P : X → Type 0) (xs : List X) (x : X) → P x
    → ((i : ℕ) (y : X) → slice_get xs i ≡ Some y → P y) → (i : ℕ) (y : X) → slice_get (xs ++ x ∷ []) i ≡ Some y → P y
at_end P [] x last each zero y at = let same : x ≡ y = cc in subst P same last
at_end P [] x last each (suc i) y at = let no : ⊥ = cc in absurd no
at_end P (z ∷ zs) x last each zero y at = each 0 y at
at_end P (z ∷ zs) x last each (suc i) y at = at_end P zs x last (λ j w found. each (suc j) w found) i y at

-- ## Names

module _ (xs : List RunningTrain) (i : ℕ) (x y : RunningTrain) (at : slice_get xs i ≡ Some x)
    (same : name_of y ≡ name_of x) where
  pub names_set : names_of (set xs i y) ≡ names_of xs
  names_set = names_kept xs i at
    where
      names_kept : (zs : List RunningTrain) (j : ℕ) → slice_get zs j ≡ Some x → names_of (set zs j y) ≡ names_of zs
      names_kept [] j found = refl
      names_kept (z ∷ zs) zero found =
          let is : z ≡ x = cc in ap (λ n. n ∷ names_of zs) (same ∙ ap name_of (sym is))
      names_kept (z ∷ zs) (suc j) found = ap (λ ns. name_of z ∷ ns) (names_kept zs j found)

  -- a property of the others and of the new one is one of all
  each_set : (P : ℕ → RunningTrain → Type 0) → i < length xs → P i y
      → ((j : ℕ) (z : RunningTrain) → slice_get xs j ≡ Some z → (j ≡ i → ⊥) → P j z)
      → (j : ℕ) (z : RunningTrain) → slice_get (set xs i y) j ≡ Some z → P j z
  each_set P within new others j z found = elim (eqb_tells j i) [
    | inl e ↦
        let is : z ≡ y = same_some (sym found ∙ ap (λ n. slice_get (set xs i y) n) (e.1) ∙ at_same xs i y within) in
        subst (λ n. P n z) (sym (e.1)) (subst (P i) (sym is) new)
    | inr e ↦ others j z (sym (at_other xs i j y (e.1)) ∙ found) (e.1)
  ]
    where
      same_some : {a b : RunningTrain} → Some a ≡ Some b → a ≡ b
      same_some e = cc

  module _ (own : HaveOwnNames xs) (within : i < length xs) where
    pub own_names_set : HaveOwnNames (set xs i y)
    own_names_set j k a b at_j at_k named =
        let first = name_before j a at_j in
        let second = name_before k b at_k in
        own j k first.0 second.0 first.1 second.1 (first.2 ∙ named ∙ sym second.2)
      where
        name_before : (j : ℕ) (z : RunningTrain) → slice_get (set xs i y) j ≡ Some z
            → (w : RunningTrain) × (slice_get xs j ≡ Some w) × (name_of w ≡ name_of z)
        name_before = each_set (λ j z. (w : RunningTrain) × (slice_get xs j ≡ Some w) × (name_of w ≡ name_of z)) within
            (x, at, sym same) (λ j z found apart. (z, found, refl))

    -- the trains by their names, after one has changed
    pub trains_put : (f : ℕ → Train) (new : Train) → new ≡ train_at y
        → ((j : ℕ) (z : RunningTrain) → slice_get xs j ≡ Some z → f (name_of z) ≡ train_at z)
        → (j : ℕ) (z : RunningTrain) → slice_get (set xs i y) j ≡ Some z
        → put f (name_of x) new (name_of z) ≡ train_at z
    trains_put f new is before = each_set (λ j z. put f (name_of x) new (name_of z) ≡ train_at z) within
        (put_here f (name_of x) (name_of y) new same ∙ is)
        (λ j z found apart. put_other f (name_of x) (name_of z) new
        (λ named. apart (own j i z x found at named))
        ∙ before j z found)

-- a train of the list has a name of the list
pub named_at : (xs : List RunningTrain) (i : ℕ) (x : RunningTrain) → slice_get xs i ≡ Some x
    → is_named (names_of xs) (name_of x) ≡ true
named_at [] i x at = absurd (let no : ⊥ = cc in no)
named_at (y ∷ ys) zero x at =
    let is : y ≡ x = cc in ap (λ b. b || is_named (names_of ys) (name_of x)) (eq-eqb (name_of y) (name_of x) (ap
    name_of is))
named_at (y ∷ ys) (suc i) x at = or_true (name_of y == name_of x) (named_at ys i x at)
  where
    or_true : (a : Bool) {b : Bool} → b ≡ true → (a || b) ≡ true
    or_true true e = refl
    or_true false e = e

-- ## The first moment

pub first_at : (xs : List RunningTrain) → HaveOwnNames xs → (i : ℕ) (x : RunningTrain) → slice_get xs i ≡ Some x
    → first_of xs (name_of x) ≡ train_at x
first_at [] own i x at = absurd (let no : ⊥ = cc in no)
first_at (y ∷ ys) own zero x at =
    let is : y ≡ x = cc in
    cond-true (name_of y == name_of x) (train_at y) (first_of ys (name_of x)) (eq-eqb (name_of y) (name_of x) (ap
    name_of is))
    ∙ ap train_at is
first_at (y ∷ ys) own (suc i) x at =
    cond-false (name_of y == name_of x) (train_at y) (first_of ys (name_of x))
    (ne_eqb (name_of y) (name_of x) (λ named. let no : 0 ≡ suc i = own 0 (suc i) y x refl at named in cc))
    ∙ first_at ys (λ j k a b at_j at_k named. let is = own (suc j) (suc k) a b at_j at_k named in omega (
      arith,
      is,
    )) i x at

nobody_new : IsNew nobody
nobody_new = record {
  has_length = refl;
  not_started = refl;
  no_authority = refl;
  follows_none = refl;
  none_asked = λ c. refl;
}

new_or : (b : Bool) (x y : Train) → IsNew x → IsNew y → IsNew (if b then x else y)
new_or true x y one other = one
new_or false x y one other = other

pub first_new : (xs : List RunningTrain) → AreNew xs → (t : ℕ) → IsNew (first_of xs t)
first_new [] new t = nobody_new
first_new (x ∷ xs) new t =
    new_or (name_of x == t) (train_at x) (first_of xs t) (new 0 x refl) (first_new xs (λ i y at. new (suc i) y at) t)

-- ## Names that are not there

pub none_named : (xs : List RunningTrain) (t : ℕ)
    → ((i : ℕ) (x : RunningTrain) → slice_get xs i ≡ Some x → name_of x ≡ t → ⊥) → is_named (names_of xs) t ≡ false
none_named [] t apart = refl
none_named (x ∷ xs) t apart =
    ap (λ b. b || is_named (names_of xs) t) (ne_eqb (name_of x) t (apart 0 x refl))
    ∙ none_named xs t (λ i y at. apart (suc i) y at)

-- ## One train more

at_cases : {X : Type 0} (xs : List X) (y : X) (i : ℕ) (z : X) → slice_get (xs ++ y ∷ []) i ≡ Some z
    → (slice_get xs i ≡ Some z) ⊎ ((i ≡ length xs) × (z ≡ y))
at_cases [] y zero z at = let is : y ≡ z = cc in inr (refl, sym is)
at_cases [] y (suc i) z at = let bad : ⊥ = cc in absurd bad
at_cases (x ∷ xs) y zero z at = inl at
at_cases (x ∷ xs) y (suc i) z at = elim (at_cases xs y i z at) [
  | inl found ↦ inl found
  | inr last ↦ inr (ap suc (last.0), last.1)
]

pub own_names_more : (xs : List RunningTrain) (y : RunningTrain) → HaveOwnNames xs
    → ((i : ℕ) (x : RunningTrain) → slice_get xs i ≡ Some x → name_of x ≡ name_of y → ⊥)
    → HaveOwnNames (xs ++ y ∷ [])
own_names_more xs y own apart i j a b at_i at_j named = elim (at_cases xs y i a at_i) [
  | inl found_i ↦ elim (at_cases xs y j b at_j) [
    | inl found_j ↦ own i j a b found_i found_j named
    | inr last_j ↦ absurd (apart i a found_i (named ∙ ap name_of (last_j.1)))
  ]
  | inr last_i ↦ elim (at_cases xs y j b at_j) [
    | inl found_j ↦ absurd (apart j b found_j (sym named ∙ ap name_of (last_i.1)))
    | inr last_j ↦ last_i.0 ∙ sym (last_j.0)
  ]
]

pub none_found : {P : Type 0} (o : Option ℕ) → is_some o ≡ false → IfNone o P → P
none_found None e p = p
none_found (Some i) e p = let no : true ≡ false = e in absurd (let bad : ⊥ = cc in bad)
