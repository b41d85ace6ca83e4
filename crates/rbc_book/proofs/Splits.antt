-- Laws of runs that are divided.
use Rattle.std.proofs.Common.{[], ◌&&◌, ◌+◌, ◌-◌, ◌<◌, ◌||◌, ◌∙◌, ◌∷◌, ◌≡◌, ◌≤◌, ◌⊎◌, ap, arith, Bool, cond, false}
use Rattle.std.proofs.Common.{if◌then◌else◌, inl, inr, List, nat_lt, refl, Some, subst, suc, true, zero, ℕ}
use Rattle.std.proofs.lemmas.Bool.{and_from, and_parts, both_ways, cases_Bool, cases_lt, lt-ltb, ltb-true, or_cases}
use Rattle.std.proofs.lemmas.Bool.{or_left, or_right}
use Rattle.rbc_book.proofs.Rows.{at_from}
use Rattle.rbc_book.specs.declared.run.Run.{Run}
use Rattle.rbc_book.specs.Edits.{IsWhole}
use Rattle.rbc_book.specs.Runs.{AreApart, AreInOrder, At, GoesOn, GoesOnAt, IsFollowed, sections_in, sections_of}
use Rattle.rbc_book.specs.Runs.{spot_at, spot_of}
use Rattle.rbc_spec.proofs.Runs.{same_tests, within_from, within_true}
use Rattle.rbc_spec.specs.SectionRuns.{within}

-- ## The definitions

-- the part of a run before a section, and the part from it on
abbrev pub before : ℕ → Run → Run
before s r = record { first = r.first; count = s - r.first; track = r.track; is_wished = r.is_wished; entry = r.entry }

abbrev pub from : ℕ → Run → Run
from s r =
    record { first = s; count = r.count - (s - r.first); track = r.track; is_wished = r.is_wished; entry = r.entry }

-- the section is in the run, after its first
abbrev pub is_inside : ℕ → Run → Bool
is_inside s r = nat_lt r.first s && within (sections_of r) s

-- the run at a position, divided before a section that is inside it
abbrev pub split_at : ℕ → ℕ → List Run → List Run
split_at i s [] = []
split_at zero s (r ∷ rs) = if is_inside s r then before s r ∷ from s r ∷ rs else r ∷ rs
split_at (suc i) s (r ∷ rs) = r ∷ split_at i s rs

-- The `size` sections from s on are a run of their own, at this position. The pages stay, and only that run may be one
-- with the run before it or after it.
pub record IsSingledOut (s size : ℕ) (old new : List Run) (place : ℕ) : Type 0 where
  pub spots : (k : ℕ) → spot_at new k ≡ spot_at old k
  pub alone : At (IsWhole s size) place new
  pub order : AreInOrder 0 new
  pub count : sections_in new ≡ sections_in old
  pub seams : (j : ℕ) → GoesOnAt j new → (j ≡ place) ⊎ (suc j ≡ place)

-- ## One run

-- the position of a section inside a run
pub record IsInside (s : ℕ) (r : Run) : Type 0 where
  pub after_first : r.first < s
  pub before_end : s < r.first + r.count

pub inside_true : (s : ℕ) (r : Run) → is_inside s r ≡ true → IsInside s r
inside_true s r h =
    let both = and_parts (nat_lt r.first s) (within (sections_of r) s) h in
    record { after_first = ltb-true r.first s both.0; before_end = (within_true (sections_of r) s both.1).1 }

pub inside_from : (s : ℕ) (r : Run) → r.first < s → s < r.first + r.count → is_inside s r ≡ true
inside_from s r low high = and_from (nat_lt r.first s) (within (sections_of r) s) (lt-ltb r.first s low)
    (within_from (sections_of r) s (omega arith) high)

-- a section is in the run if and only if it is in one of the two parts
divided : (s : ℕ) (r : Run) (k : ℕ) → IsInside s r → within (sections_of r) k
    ≡ (within (sections_of (before s r)) k || within (sections_of (from s r)) k)
divided s r k inside = same_tests (within (sections_of r) k) (within (sections_of (before s r)) k
    || within (sections_of (from s r)) k)
    (λ has. let ends = within_true (sections_of r) k has in
    elim (cases_lt k s) [
      | inl low ↦ or_left (within (sections_of (before s r)) k) (within (sections_of (from s r)) k)
          (within_from (sections_of (before s r)) k ends.0 (omega (arith, inside.after_first)))
      | inr high ↦ or_right (within (sections_of (before s r)) k) (within (sections_of (from s r)) k)
          (within_from (sections_of (from s r)) k high (omega (arith, inside.after_first, inside.before_end, ends.1)))
    ])
    (λ one. elim (or_cases (within (sections_of (before s r)) k) (within (sections_of (from s r)) k) one) [
      | inl low ↦ let ends = within_true (sections_of (before s r)) k low in
          within_from (sections_of r) k ends.0 (omega (arith, inside.after_first, inside.before_end, ends.1))
      | inr high ↦ let ends = within_true (sections_of (from s r)) k high in
          within_from (sections_of r) k (omega (arith, inside.after_first, ends.0))
          (omega (arith, inside.after_first, inside.before_end, ends.1))
    ])

either : {X : Type 0} (whole a b : Bool) (x y : X) → whole ≡ (a || b) → cond a x (cond b x y) ≡ cond whole x y
either whole true b x y is = rw is refl
either whole false b x y is = rw is refl

-- ## A list

pub spots-split : (i s : ℕ) (runs : List Run) (k : ℕ) → spot_at (split_at i s runs) k ≡ spot_at runs k
spots-split i s [] k = refl
spots-split zero s (r ∷ rs) k = elim (cases_Bool (is_inside s r)) [
  | inl inside ↦ rw inside (either (within (sections_of r) k) (within (sections_of (before s r)) k)
      (within (sections_of (from s r)) k) (Some (spot_of r)) (spot_at rs k) (divided s r k (inside_true s r inside)))
  | inr outside ↦ rw outside refl
]
spots-split (suc i) s (r ∷ rs) k = ap (λ o. cond (within (sections_of r) k) (Some (spot_of r)) o) (spots-split i s rs k)

pub order-split : (i s from_n : ℕ) (runs : List Run) → AreInOrder from_n runs → AreInOrder from_n (split_at i s runs)
order-split i s n [] order = order
order-split zero s n (r ∷ rs) order = elim (cases_Bool (is_inside s r)) [
  | inl inside ↦
      let is = inside_true s r inside in
      let end : r.first + r.count ≡ s + (r.count - (s - r.first)) = omega (arith, is.after_first, is.before_end) in
      rw inside (
        order.0,
        omega (arith, is.after_first),
        omega (arith, is.after_first, is.before_end, order.2),
        (
          omega (arith, is.after_first),
          omega (arith, is.after_first, is.before_end),
          omega (arith, end, order.2),
          subst (λ m. AreInOrder m rs) end order.3,
        ),
      )
  | inr outside ↦ rw outside order
]
order-split (suc i) s n (r ∷ rs) order = (order.0, order.1, order.2, order-split i s (r.first + r.count) rs order.3)

pub count-split : (i s : ℕ) (runs : List Run) → sections_in (split_at i s runs) ≡ sections_in runs
count-split i s [] = refl
count-split zero s (r ∷ rs) = elim (cases_Bool (is_inside s r)) [
  | inl inside ↦ let is = inside_true s r inside in rw inside (omega (arith, is.after_first, is.before_end))
  | inr outside ↦ rw outside refl
]
count-split (suc i) s (r ∷ rs) = ap (λ n. r.count + n) (count-split i s rs)

-- a run that can be one with the first of a divided list could be so before
first-split : (i s : ℕ) (r : Run) (rs : List Run) → IsFollowed r (split_at i s rs) → IsFollowed r rs
first-split i s r [] h = h
first-split zero s r (q ∷ qs) h = by_test (is_inside s q) h
  where
    by_test : (b : Bool) → IsFollowed r (cond b (before s q ∷ from s q ∷ qs) (q ∷ qs)) → GoesOn r q
    by_test true h = h
    by_test false h = h
first-split (suc i) s r (q ∷ qs) h = h

-- who follows the second part follows the run
last-split : (s : ℕ) (r : Run) (rs : List Run) → IsInside s r → IsFollowed (from s r) rs → IsFollowed r rs
last-split s r [] inside h = h
last-split s r (q ∷ qs) inside h = (omega (arith, inside.after_first, inside.before_end, h.0), h.1, h.2)

-- two runs of a divided list that could be one are at the position, or could be one before
abbrev pub Seam : ℕ → List Run → ℕ → Type 0
Seam i runs j = (j ≡ i) ⊎ (GoesOnAt j runs ⊎ ((m : ℕ) × (j ≡ suc m) × GoesOnAt m runs))

pub seams-split : (i s : ℕ) (runs : List Run) (j : ℕ) → GoesOnAt j (split_at i s runs) → Seam i runs j
seams-split i s [] j h = absurd h
seams-split zero s (r ∷ rs) j h = by_test (is_inside s r) refl j h
  where
    by_test : (b : Bool) → is_inside s r ≡ b → (j : ℕ) → GoesOnAt j (cond b (before s r ∷ from s r ∷ rs) (r ∷ rs))
        → Seam zero (r ∷ rs) j
    by_test true e zero h = inl refl
    by_test true e (suc zero) h = inr (inr (0, refl, last-split s r rs (inside_true s r e) h))
    by_test true e (suc (suc j)) h = inr (inr (suc j, refl, h))
    by_test false e j h = inr (inl h)
seams-split (suc i) s (r ∷ rs) zero h = inr (inl (first-split i s r rs h))
seams-split (suc i) s (r ∷ rs) (suc j) h = elim (seams-split i s rs j h) [
  | inl here ↦ inl (ap suc here)
  | inr other ↦ elim other [
    | inl same ↦ inr (inl same)
    | inr next ↦ inr (inr (suc next.0, ap suc next.1, next.2))
  ]
]

-- ## The positions after it

-- the second part begins with the section, and ends with the run
pub at_second : (i s : ℕ) (runs : List Run) (r : Run) → At (λ q. q ≡ r) i runs → is_inside s r ≡ true
    → At (λ q. q ≡ from s r) (suc i) (split_at i s runs)
at_second i s [] r at inside = absurd at
at_second zero s (q ∷ qs) r at inside = rw at (rw inside refl)
at_second (suc i) s (q ∷ qs) r at inside = at_second i s qs r at inside

-- the first part ends before it
pub at_first : (i s : ℕ) (runs : List Run) (r : Run) → At (λ q. q ≡ r) i runs → is_inside s r ≡ true
    → At (λ q. q ≡ before s r) i (split_at i s runs)
at_first i s [] r at inside = absurd at
at_first zero s (q ∷ qs) r at inside = rw at (rw inside refl)
at_first (suc i) s (q ∷ qs) r at inside = at_first i s qs r at inside

-- nothing changes if the section is not inside
pub split-outside : (i s : ℕ) (runs : List Run) (r : Run) → At (λ q. q ≡ r) i runs → is_inside s r ≡ false
    → split_at i s runs ≡ runs
split-outside i s [] r at outside = refl
split-outside zero s (q ∷ qs) r at outside = rw at (rw outside refl)
split-outside (suc i) s (q ∷ qs) r at outside = ap (λ xs. q ∷ xs) (split-outside i s qs r at outside)

-- ## Sections are singled out

no_seam : (runs : List Run) → AreApart runs → (i j : ℕ) → Seam i runs j → j ≡ i
no_seam runs apart i j seam = elim seam [
  | inl here ↦ here
  | inr other ↦ elim other [
    | inl same ↦ absurd (apart j same)
    | inr next ↦ absurd (apart next.0 next.2)
  ]
]

-- for a list in which the first section begins a run, and all runs that could be one end before that
module _ (s size i : ℕ) (old mid : List Run) (r : Run) (begins : r.first ≡ s) (some : 1 ≤ size) (fits : size ≤ r.count)
    (at : At (λ q. q ≡ r) i mid) (order : AreInOrder 0 mid)
    (spots : (k : ℕ) → spot_at mid k ≡ spot_at old k) (count : sections_in mid ≡ sections_in old) (seams : (j : ℕ)
    → GoesOnAt j mid → suc j ≡ i) where
  alone : At (IsWhole s size) i (split_at i (s + size) mid)
  alone = elim (cases_Bool (is_inside (s + size) r)) [
    | inl inside ↦ at_from (IsWhole s size) (split_at i (s + size) mid) i (before (s + size) r)
        (begins, omega (arith, begins)) (at_first i (s + size) mid r at inside)
    | inr outside ↦
        let short : r.count ≡ size = elim (cases_lt size r.count) [
          | inl long ↦
              absurd (both_ways (is_inside (s + size) r) outside
              (inside_from (s + size) r (omega (arith, begins, some)) (omega (arith, begins, long))))
          | inr short ↦ omega (arith, fits, short)
        ] in
        at_from (IsWhole s size) (split_at i (s + size) mid) i r (begins, short)
        (rw (split-outside i (s + size) mid r at outside) at)
  ]

  pub second : IsSingledOut s size old (split_at i (s + size) mid) i
  second = record {
    spots = λ k. spots-split i (s + size) mid k ∙ spots k;
    alone = alone;
    order = order-split i (s + size) 0 mid order;
    count = count-split i (s + size) mid ∙ count;
    seams = λ j h. elim (seams-split i (s + size) mid j h) [
      | inl here ↦ inl here
      | inr other ↦ elim other [
        | inl same ↦ inr (seams j same)
        | inr next ↦ inl (next.1 ∙ seams next.0 next.2)
      ]
    ];
  }

-- sections of a run, after its first
pub single_inside : (s size i : ℕ) (runs : List Run) (r : Run) → At (λ q. q ≡ r) i runs → 1 ≤ size → r.first < s
    → s + size ≤ r.first + r.count → AreInOrder 0 runs → AreApart runs
    → IsSingledOut s size runs (split_at (suc i) (s + size) (split_at i s runs)) (suc i)
single_inside s size i runs r at some after fits order apart =
    let inside : is_inside s r ≡ true = inside_from s r after (omega (arith, some, fits)) in
    second s size (suc i) runs (split_at i s runs) (from s r) refl some (omega (arith, after, fits))
    (at_second i s runs r at inside) (order-split i s 0 runs order)
    (spots-split i s runs) (count-split i s runs) (λ j h. ap suc (no_seam runs apart i j (seams-split i s runs j h)))

-- the first sections of a run
pub single_first : (s size i : ℕ) (runs : List Run) (r : Run) → At (λ q. q ≡ r) i runs → 1 ≤ size → r.first ≡ s
    → size ≤ r.count → AreInOrder 0 runs → AreApart runs
    → IsSingledOut s size runs (split_at i (s + size) runs) i
single_first s size i runs r at some first fits order apart =
    second s size i runs runs r first some fits at order (λ k. refl) refl (λ j h. absurd (apart j h))
