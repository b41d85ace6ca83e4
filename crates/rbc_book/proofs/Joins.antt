-- Laws of runs that are joined, of a run with a new page, and of a section after all runs.
use Rattle.std.proofs.Common.{[], ◌+◌, ◌<◌, ◌||◌, ◌∙◌, ◌∷◌, ◌≡◌, ◌≤◌, ◌⊎◌, ap, arith, Bool, cond, false, inl, inr}
use Rattle.std.proofs.Common.{length, List, refl, set, Some, subst, suc, sym, true, zero, ℕ}
use Rattle.std.proofs.lemmas.Bool.{cases_lt, or_cases, or_left, or_right}
use Rattle.std.proofs.lemmas.List.Elements.{All-cons, All-head, All-tail}
use Rattle.std.specs.List.{remove}
use Rattle.rbc_book.proofs.Rows.{at_next, most_is, order_at}
use Rattle.rbc_book.specs.declared.run.Run.{Run}
use Rattle.rbc_book.specs.Edits.{AreBefore, IsJoined, joined, joined_at}
use Rattle.rbc_book.specs.Runs.{AreApart, AreInOrder, At, GoesOn, GoesOnAt, IsFollowed, sections_in, sections_of}
use Rattle.rbc_book.specs.Runs.{spot_at, spot_of}
use Rattle.rbc_spec.proofs.Runs.{same_tests, within_from, within_true}
use Rattle.rbc_spec.specs.SectionRuns.{within}

-- ## Two runs as one

both : (r q : Run) (k : ℕ) → GoesOn r q → within (sections_of (joined r q)) k
    ≡ (within (sections_of r) k || within (sections_of q) k)
both r q k on = same_tests (within (sections_of (joined r q)) k) (within (sections_of r) k || within (sections_of q) k)
    (λ has. let ends = within_true (sections_of (joined r q)) k has in
    elim (cases_lt k q.first) [
      | inl low ↦ or_left (within (sections_of r) k) (within (sections_of q) k)
          (within_from (sections_of r) k ends.0 (omega (arith, on.0)))
      | inr high ↦ or_right (within (sections_of r) k) (within (sections_of q) k)
          (within_from (sections_of q) k high (omega (arith, on.0, ends.1)))
    ])
    (λ one. elim (or_cases (within (sections_of r) k) (within (sections_of q) k) one) [
      | inl low ↦ let ends = within_true (sections_of r) k low in
          within_from (sections_of (joined r q)) k ends.0 (omega (arith, ends.1))
      | inr high ↦ let ends = within_true (sections_of q) k high in
          within_from (sections_of (joined r q)) k (omega (arith, on.0, ends.0)) (omega (arith, on.0, ends.1))
    ])

either : {X : Type 0} (whole a b : Bool) (x y z : X) → whole ≡ (a || b) → x ≡ y → cond whole x z ≡ cond a x (cond b y z)
either whole true b x y z is same = rw is refl
either whole false true x y z is same = rw is same
either whole false false x y z is same = rw is refl

same_spot : (r q : Run) → GoesOn r q → spot_of r ≡ spot_of q
same_spot r q on = λ i. record { page = on.2 i; track = on.1 i }

spots-joined : (i : ℕ) (runs : List Run) (k : ℕ) → GoesOnAt i runs → spot_at (joined_at i runs) k ≡ spot_at runs k
spots-joined i [] k on = refl
spots-joined zero (r ∷ []) k on = refl
spots-joined zero (r ∷ q ∷ qs) k on =
    either (within (sections_of (joined r q)) k) (within (sections_of r) k) (within (sections_of q) k)
    (Some (spot_of r)) (Some (spot_of q)) (spot_at qs k) (both r q k on) (ap (λ spot. Some spot) (same_spot r q on))
spots-joined (suc i) (r ∷ rs) k on =
    ap (λ o. cond (within (sections_of r) k) (Some (spot_of r)) o) (spots-joined i rs k on)

order-joined : (i n : ℕ) (runs : List Run) → GoesOnAt i runs → AreInOrder n runs → AreInOrder n (joined_at i runs)
order-joined i n [] on order = order
order-joined zero n (r ∷ []) on order = order
order-joined zero n (r ∷ q ∷ qs) on order =
    let rest = order.3 in
    let end : q.first + q.count ≡ r.first + (r.count + q.count) = omega (arith, on.0) in
    (order.0, omega (arith, order.1), omega (arith, end, rest.2), subst (λ m. AreInOrder m qs) end rest.3)
order-joined (suc i) n (r ∷ rs) on order = (order.0, order.1, order.2, order-joined i (r.first + r.count) rs on order.3)

count-joined : (i : ℕ) (runs : List Run) → sections_in (joined_at i runs) ≡ sections_in runs
count-joined i [] = refl
count-joined zero (r ∷ []) = refl
count-joined zero (r ∷ q ∷ qs) = omega arith
count-joined (suc i) (r ∷ rs) = ap (λ n. r.count + n) (count-joined i rs)

before-joined : (i s : ℕ) (runs : List Run) → GoesOnAt i runs → AreBefore s runs → AreBefore s (joined_at i runs)
before-joined i s [] on all = all
before-joined zero s (r ∷ []) on all = all
before-joined zero s (r ∷ q ∷ qs) on all = let next : q.first + q.count ≤ s =
    All-head (λ r. r.first + r.count ≤ s) q qs (All-tail (λ r. r.first + r.count ≤ s) r (q ∷ qs) all) in
    All-cons (λ r. r.first + r.count ≤ s) (joined r q) qs (omega (arith, on.0, next))
    (All-tail (λ r. r.first + r.count ≤ s) q qs (All-tail (λ r. r.first + r.count ≤ s) r (q ∷ qs) all))
before-joined (suc i) s (r ∷ rs) on all =
    All-cons (λ r. r.first + r.count ≤ s) r (joined_at i rs) (All-head (λ r. r.first + r.count ≤ s) r rs all)
    (before-joined i s rs on (All-tail (λ r. r.first + r.count ≤ s) r rs all))

first-joined : (i : ℕ) (r : Run) (rs : List Run) → IsFollowed r (joined_at i rs) → IsFollowed r rs
first-joined i r [] h = h
first-joined zero r (q ∷ []) h = h
first-joined zero r (q ∷ p ∷ ps) h = h
first-joined (suc i) r (q ∷ qs) h = h

last-joined : (r q : Run) (qs : List Run) → GoesOn r q → IsFollowed (joined r q) qs → IsFollowed q qs
last-joined r q [] on h = h
last-joined r q (p ∷ ps) on h = (omega (arith, on.0, h.0), sym on.1 ∙ h.1, sym on.2 ∙ h.2)

-- two runs of the joined list that could be one could be one before
seams-joined : (i : ℕ) (runs : List Run) (j : ℕ) → GoesOnAt i runs → GoesOnAt j (joined_at i runs)
    → ((j < i) × GoesOnAt j runs) ⊎ ((i ≤ j) × GoesOnAt (suc j) runs)
seams-joined i [] j on h = absurd on
seams-joined zero (r ∷ []) j on h = absurd on
seams-joined zero (r ∷ q ∷ qs) zero on h = inr (omega arith, last-joined r q qs on h)
seams-joined zero (r ∷ q ∷ qs) (suc j) on h = inr (omega arith, h)
seams-joined (suc i) (r ∷ rs) zero on h = inl (omega arith, first-joined i r rs h)
seams-joined (suc i) (r ∷ rs) (suc j) on h = elim (seams-joined i rs j on h) [
  | inl low ↦ inl (omega (arith, low.0), low.1)
  | inr high ↦ inr (omega (arith, high.0), high.1)
]

-- as the list is changed
pub join-is : (i : ℕ) (runs : List Run) (r q : Run) → At (λ p. p ≡ r) i runs → At (λ p. p ≡ q) (suc i) runs
    → remove (set runs i (joined r q)) (suc i) ≡ joined_at i runs
join-is i [] r q at next = absurd at
join-is zero (p ∷ []) r q at next = absurd next
join-is zero (p ∷ o ∷ os) r q at next = rw (at, next) refl
join-is (suc i) (p ∷ ps) r q at next = ap (λ xs. p ∷ xs) (join-is i ps r q at next)

-- ## Joined or not

pub joined_spots : (i : ℕ) (old new : List Run) (k : ℕ) → IsJoined i old new → spot_at new k ≡ spot_at old k
joined_spots i old new k joins = elim joins [
  | inl apart ↦ ap (λ runs. spot_at runs k) apart.0
  | inr one ↦ ap (λ runs. spot_at runs k) one.0 ∙ spots-joined i old k one.1
]

pub joined_order : (i : ℕ) (old new : List Run) → IsJoined i old new → AreInOrder 0 old → AreInOrder 0 new
joined_order i old new joins order = elim joins [
  | inl apart ↦ subst (AreInOrder 0) (sym apart.0) order
  | inr one ↦ subst (AreInOrder 0) (sym one.0) (order-joined i 0 old one.1 order)
]

pub joined_count : (i : ℕ) (old new : List Run) → IsJoined i old new → sections_in new ≡ sections_in old
joined_count i old new joins = elim joins [
  | inl apart ↦ ap sections_in apart.0
  | inr one ↦ ap sections_in one.0 ∙ count-joined i old
]

pub joined_before : (i s : ℕ) (old new : List Run) → IsJoined i old new → AreBefore s old → AreBefore s new
joined_before i s old new joins all = elim joins [
  | inl apart ↦ subst (AreBefore s) (sym apart.0) all
  | inr one ↦ subst (AreBefore s) (sym one.0) (before-joined i s old one.1 all)
]

-- a run that could be one with the next is so no longer
pub joined_after : (i : ℕ) (old new : List Run) → IsJoined i old new
    → ((j : ℕ) → GoesOnAt j old → (j ≡ i) ⊎ (suc j ≡ i)) → (j : ℕ) → GoesOnAt j new → suc j ≡ i
joined_after i old new joins seams j h = elim joins [
  | inl apart ↦
      let on : GoesOnAt j old = subst (GoesOnAt j) apart.0 h in
      elim (seams j on) [
        | inl here ↦ absurd (apart.1 (subst (λ n. GoesOnAt n old) here on))
        | inr ahead ↦ ahead
      ]
  | inr one ↦ elim (seams-joined i old j one.1 (subst (GoesOnAt j) one.0 h)) [
    | inl low ↦ elim (seams j low.1) [
      | inl here ↦ absurd (let no : ⊥ = omega (arith, low.0, here) in no)
      | inr ahead ↦ ahead
    ]
    | inr high ↦ elim (seams (suc j) high.1) [
      | inl here ↦ absurd (let no : ⊥ = omega (arith, high.0, here) in no)
      | inr ahead ↦ absurd (let no : ⊥ = omega (arith, high.0, ahead) in no)
    ]
  ]
]

-- no two neighbouring runs could be one after the last join
pub joined_apart : (i : ℕ) (old new : List Run) → IsJoined i old new → ((j : ℕ) → GoesOnAt j old → j ≡ i) → AreApart new
joined_apart i old new joins seams j h = elim joins [
  | inl apart ↦
      let on : GoesOnAt j old = subst (GoesOnAt j) apart.0 h in
      apart.1 (subst (λ n. GoesOnAt n old) (seams j on) on)
  | inr one ↦ elim (seams-joined i old j one.1 (subst (GoesOnAt j) one.0 h)) [
    | inl low ↦ let here = seams j low.1 in let no : ⊥ = omega (arith, low.0, here) in no
    | inr high ↦ let here = seams (suc j) high.1 in let no : ⊥ = omega (arith, high.0, here) in no
  ]
]

-- ## The code

-- two consecutive runs
pub goes_on_at : (i : ℕ) (runs : List Run) (r q : Run) → At (λ p. p ≡ r) i runs → At (λ p. p ≡ q) (suc i) runs
    → GoesOn r q → GoesOnAt i runs
goes_on_at i [] r q at next on = absurd at
goes_on_at zero (p ∷ []) r q at next on = absurd next
goes_on_at zero (p ∷ o ∷ os) r q at next on = rw (at, next) on
goes_on_at (suc i) (p ∷ ps) r q at next on = goes_on_at i ps r q at next on

pub goes_not_on : (i : ℕ) (runs : List Run) (r q : Run) → At (λ p. p ≡ r) i runs → At (λ p. p ≡ q) (suc i) runs
    → ¬ GoesOn r q → ¬ GoesOnAt i runs
goes_not_on i [] r q at next not_on on = absurd at
goes_not_on zero (p ∷ []) r q at next not_on on = absurd next
goes_not_on zero (p ∷ o ∷ os) r q at next not_on on =
    not_on (subst (λ x. GoesOn r x) next (subst (λ x. GoesOn x o) at on))
goes_not_on (suc i) (p ∷ ps) r q at next not_on on = goes_not_on i ps r q at next not_on on

pub nothing_after : (i : ℕ) (runs : List Run) → length runs ≤ suc i → ¬ GoesOnAt i runs
nothing_after i [] short on = on
nothing_after zero (p ∷ []) short on = on
nothing_after zero (p ∷ o ∷ os) short on = let no : ⊥ = omega arith in no
nothing_after (suc i) (p ∷ ps) short on = nothing_after i ps (omega arith) on

-- the sum of their sections fits
pub sum_fits : (i n : ℕ) (runs : List Run) (r q : Run) → AreInOrder n runs → At (λ p. p ≡ q) (suc i) runs → GoesOn r q
    → r.count + q.count ≤ 65535
sum_fits i n runs r q order next on = omega (arith, on.0, (order_at n runs (suc i) q order next).bound, most_is)

-- the run after the position is removed
pub join-removed : (i : ℕ) (runs : List Run) (r q : Run) → At (λ p. p ≡ r) i runs → At (λ p. p ≡ q) (i + 1) runs
    → GoesOn r q → IsJoined i runs (remove (set runs i (joined r q)) (i + 1))
join-removed i runs r q at next on =
    let after = at_next (λ p. p ≡ q) runs i next in
    inr (
      ap (remove (set runs i (joined r q))) (let e : i + 1 ≡ suc i = omega arith in e)
          ∙ join-is i runs r q at after,
      goes_on_at i runs r q at after on,
    )

pub join-not : (i : ℕ) (runs : List Run) (r q : Run) → At (λ p. p ≡ r) i runs → At (λ p. p ≡ q) (i + 1) runs
    → ¬ GoesOn r q → IsJoined i runs runs
join-not i runs r q at next not_on = inl (refl, goes_not_on i runs r q at (at_next (λ p. p ≡ q) runs i next) not_on)

pub join-nothing : (i : ℕ) (runs : List Run) → length runs ≤ i + 1 → IsJoined i runs runs
join-nothing i runs short = inl (refl, nothing_after i runs (omega (arith, short)))

pub sum_fits_next : (i : ℕ) (runs : List Run) (r q : Run) → AreInOrder 0 runs → At (λ p. p ≡ q) (i + 1) runs
    → GoesOn r q → r.count + q.count ≤ 65535
sum_fits_next i runs r q order next on = sum_fits i 0 runs r q order (at_next (λ p. p ≡ q) runs i next) on
