-- Laws of lists of runs, of the run at a place, and of the search for the run of a section.
use Rattle.std.proofs.Common.{[], ◌+◌, ◌<◌, ◌∙◌, ◌∷◌, ◌≡◌, ◌≤◌, ap, arith, false, get_or, if◌then◌else◌, inl, inr}
use Rattle.std.proofs.Common.{length, List, map, nat_lt, None, option_and_then, refl, set, slice_get, Some, subst, suc}
use Rattle.std.proofs.Common.{sym, true, zero, ℕ}
use Rattle.std.proofs.lemmas.Bool.{cases_lt, cases_order, le-ltb, lt-ltb}
use Rattle.std.proofs.lemmas.List.{get_or_default}
use Rattle.std.specs.List.{range_with_len}
use Rattle.rbc_book.specs.declared.run.Run.{Run}
use Rattle.rbc_book.specs.Edits.{changed_at}
use Rattle.rbc_book.specs.Runs.{AreInOrder, At, IsRunOf, most, sections_in, sections_of, sheet_of, spot_at, spot_of}
use Rattle.rbc_book.specs.Sheet.{spot_on}
use Rattle.rbc_spec.proofs.Runs.{within_after, within_before, within_true}
use Rattle.rbc_spec.specs.SectionRuns.{within}

-- # Laws of lists of runs: the run at a position, the page of a section, and the search for it.

-- ## The run at a position

-- a run that is read from a list is in it
pub at_read : (runs : List Run) (i : ℕ) (r : Run) → i < length runs → r ≡ get_or runs i r → At (λ q. q ≡ r) i runs
at_read [] i r within is = absurd (let no : ⊥ = omega arith in no)
at_read (q ∷ qs) zero r within is = sym is
at_read (q ∷ qs) (suc i) r within is = at_read qs i r (omega arith) is

-- a property at a position holds of the run there
pub at_is : (P : Run → Type 0) (runs : List Run) (i : ℕ) (r : Run) → At P i runs → At (λ q. q ≡ r) i runs → P r
at_is P [] i r holds is = absurd holds
at_is P (q ∷ qs) zero r holds is = subst P is holds
at_is P (q ∷ qs) (suc i) r holds is = at_is P qs i r holds is

-- a property of the run at a position holds at the position
pub at_from : (P : Run → Type 0) (runs : List Run) (i : ℕ) (r : Run) → P r → At (λ q. q ≡ r) i runs → At P i runs
at_from P [] i r holds is = absurd is
at_from P (q ∷ qs) zero r holds is = subst P (sym is) holds
at_from P (q ∷ qs) (suc i) r holds is = at_from P qs i r holds is

pub at_get : (runs : List Run) (i : ℕ) (r : Run) → Some r ≡ slice_get runs i → At (λ q. q ≡ r) i runs
at_get [] i r is = cc
at_get (q ∷ qs) zero r is = cc
at_get (q ∷ qs) (suc i) r is = at_get qs i r is

-- the next place
pub at_next : (P : Run → Type 0) (runs : List Run) (i : ℕ) → At P (i + 1) runs → At P (suc i) runs
at_next P runs i at = subst (λ n. At P n runs) (let e : i + 1 ≡ suc i = omega arith in e) at

-- a property of the run that is read at a position holds there
pub at_holds : (P : Run → Type 0) (runs : List Run) (i : ℕ) (d : Run) → i < length runs
    → P (get_or runs i d) → At P i runs
at_holds P [] i d within holds = absurd (let no : ⊥ = omega arith in no)
at_holds P (q ∷ qs) zero d within holds = holds
at_holds P (q ∷ qs) (suc i) d within holds = at_holds P qs i d (omega arith) holds

-- a position with a property is within the list
pub at_within : (P : Run → Type 0) (runs : List Run) (i : ℕ) → At P i runs → i < length runs
at_within P [] i holds = absurd holds
at_within P (q ∷ qs) zero holds = omega arith
at_within P (q ∷ qs) (suc i) holds = omega (arith, at_within P qs i holds)

-- ## Order

-- no run begins before the first number
pub order_from : (from : ℕ) (runs : List Run) (i : ℕ) (r : Run) → AreInOrder from runs
    → At (λ q. q ≡ r) i runs → from ≤ r.first
order_from from [] i r order at = absurd at
order_from from (q ∷ qs) zero r order at = rw (← at) order.0
order_from from (q ∷ qs) (suc i) r order at = omega (arith, order.0, order_from (q.first + q.count) qs i r order.3 at)

-- the bounds of a run in its list
pub record IsStanding (r : Run) : Type 0 where
  pub some : 1 ≤ r.count
  pub bound : r.first + r.count ≤ most

pub order_at : (from : ℕ) (runs : List Run) (i : ℕ) (r : Run) → AreInOrder from runs
    → At (λ q. q ≡ r) i runs → IsStanding r
order_at from [] i r order at = absurd at
order_at from (q ∷ qs) zero r order at = subst IsStanding at (record { some = order.1; bound = order.2 })
order_at from (q ∷ qs) (suc i) r order at = order_at (q.first + q.count) qs i r order.3 at

-- a list has at most as many runs as sections
pub few : (from : ℕ) (runs : List Run) → AreInOrder from runs → length runs ≤ sections_in runs
few from [] order = omega arith
few from (q ∷ qs) order = omega (arith, order.1, few (q.first + q.count) qs order.3)

-- a list has fewer runs than sections if one of them has several sections
pub spare : (n from : ℕ) (runs : List Run) (i : ℕ) → AreInOrder from runs → At (λ q. n < q.count) i runs
    → length runs + n ≤ sections_in runs
spare n from [] i order at = absurd at
spare n from (q ∷ qs) zero order at = omega (arith, at, few (q.first + q.count) qs order.3)
spare n from (q ∷ qs) (suc i) order at = omega (arith, order.1, spare n (q.first + q.count) qs i order.3 at)

first_from : (from : ℕ) (runs : List Run) (i : ℕ) (d : Run) → AreInOrder from runs → i < length runs
    → from ≤ (get_or runs i d).first
first_from from [] i d order lt = absurd (let no : ⊥ = omega arith in no)
first_from from (q ∷ qs) zero d order lt = order.0
first_from from (q ∷ qs) (suc i) d order lt =
    omega (arith, order.0, first_from (q.first + q.count) qs i d order.3 (omega arith))

-- a run ends at or before the start of each later one
pub one_after_another : (from : ℕ) (runs : List Run) (i j : ℕ) (d : Run) → AreInOrder from runs → i < j
    → j < length runs → (get_or runs i d).first + (get_or runs i d).count ≤ (get_or runs j d).first
one_after_another from [] i j d order less lt = absurd (let no : ⊥ = omega arith in no)
one_after_another from (q ∷ qs) i zero d order less lt = absurd (let no : ⊥ = omega arith in no)
one_after_another from (q ∷ qs) zero (suc j) d order less lt =
    first_from (q.first + q.count) qs j d order.3 (omega arith)
one_after_another from (q ∷ qs) (suc i) (suc j) d order less lt =
    one_after_another (q.first + q.count) qs i j d order.3 (omega arith) (omega arith)

-- ## The page of a section

-- the page of the run that has it
pub spot_of_run : (from : ℕ) (runs : List Run) (i k : ℕ) (r : Run) → AreInOrder from runs → At (λ q. q ≡ r) i runs
    → within (sections_of r) k ≡ true → spot_at runs k ≡ Some (spot_of r)
spot_of_run from [] i k r order at has = absurd at
spot_of_run from (q ∷ qs) zero k r order at has = rw at (rw has refl)
spot_of_run from (q ∷ qs) (suc i) k r order at has =
    let ends = within_true (sections_of r) k has in
    let later = order_from (q.first + q.count) qs i r order.3 at in
    rw (within_after (sections_of q) k (omega (arith, later, ends.0)))
    (spot_of_run (q.first + q.count) qs i k r order.3 at has)

-- none if no run has it
pub spot_none : (runs : List Run) (s : ℕ)
    → ((i : ℕ) (d : Run) → i < length runs → within (sections_of (get_or runs i d)) s ≡ false) → spot_at runs s ≡ None
spot_none [] s none = refl
spot_none (r ∷ rs) s none = rw (none 0 r (omega arith)) (spot_none rs s (λ i d lt. none (suc i) d (omega arith)))

pub most_is : most ≡ 65535
unfolding most
most_is = refl

-- nothing after the greatest number
spot_past : (from : ℕ) (runs : List Run) (k : ℕ) → AreInOrder from runs → most ≤ k → spot_at runs k ≡ None
spot_past from [] k order past = refl
spot_past from (r ∷ rs) k order past =
    rw (within_after (sections_of r) k (omega (arith, order.2, past))) (spot_past (r.first + r.count) rs k order.3 past)

-- ## The sheet of a list

-- of a function written out for some numbers
written_out : {X : Type 0} (f : ℕ → X) (from n k : ℕ) → slice_get (map f (range_with_len from n)) k
    ≡ (if nat_lt k n then Some (f (from + k)) else None)
written_out f from zero k = rw (le-ltb k 0 (omega arith)) refl
written_out f from (suc n) zero = rw (lt-ltb 0 (suc n) (omega arith))
    (ap (λ j. Some (f j)) (let e : from ≡ from + 0 = omega arith in e))
written_out f from (suc n) (suc k) = written_out f (from + 1) n k ∙ elim (cases_lt k n) [
  | inl low ↦ rw (lt-ltb k n low, lt-ltb (suc k) (suc n) (omega arith))
      (ap (λ j. Some (f j)) (let e : from + 1 + k ≡ from + suc k = omega arith in e))
  | inr high ↦ rw (le-ltb k n high, le-ltb (suc k) (suc n) (omega arith)) refl
]

pub sheet_says : (runs : List Run) → AreInOrder 0 runs → (k : ℕ) → spot_on (sheet_of runs) k ≡ spot_at runs k
sheet_says runs order k = ap (option_and_then (λ spot. spot)) (written_out (spot_at runs) 0 most k)
    ∙ elim (cases_lt k most) [
      | inl low ↦ rw (lt-ltb k most low) (ap (spot_at runs) (let e : 0 + k ≡ k = omega arith in e))
      | inr past ↦ rw (le-ltb k most past) (sym (spot_past 0 runs k order past))
    ]

-- a run with a section has the page of the sheet for all of its sections
pub run_stands : (runs : List Run) (i s : ℕ) (r : Run) → AreInOrder 0 runs
    → At (λ q. within (sections_of q) s ≡ true) i runs → r ≡ get_or runs i r → IsRunOf (sheet_of runs) s r
run_stands runs i s r order has is =
    let at = at_read runs i r (at_within (λ q. within (sections_of q) s ≡ true) runs i has) is in
    let stands = order_at 0 runs i r order at in
    record {
      has = at_is (λ q. within (sections_of q) s ≡ true) runs i r has at;
      each = λ k in_run. sheet_says runs order k ∙ spot_of_run 0 runs i k r order at in_run;
      bound = omega (arith, stands.bound, most_is);
    }

-- # Laws of the run at a position of a list that is changed.

-- the run that is read at a position is there
pub at_index : (P : Run → Type 0) (runs : List Run) (i : ℕ) (r : Run) → At P i runs
    → r ≡ get_or runs i r → At (λ q. q ≡ r) i runs
at_index P runs i r holds is = at_read runs i r (at_within P runs i holds) is

-- the changed run is set there
pub changed_is : (f : Run → Run) (i : ℕ) (runs : List Run) (r : Run) → At (λ q. q ≡ r) i runs
    → changed_at f i runs ≡ set runs i (f r)
changed_is f i [] r at = absurd at
changed_is f zero (q ∷ qs) r at = rw at refl
changed_is f (suc i) (q ∷ qs) r at = ap (λ xs. q ∷ xs) (changed_is f i qs r at)

pub changed_length : (f : Run → Run) (i : ℕ) (runs : List Run) → length (changed_at f i runs) ≡ length runs
changed_length f i [] = refl
changed_length f zero (q ∷ qs) = refl
changed_length f (suc i) (q ∷ qs) = ap suc (changed_length f i qs)

-- the run after stays
pub set_before : (P : Run → Type 0) (i : ℕ) (runs : List Run) (x : Run) → At P (suc i) runs
    → At P (suc i) (set runs i x)
set_before P i [] x at = absurd at
set_before P zero (q ∷ qs) x at = at
set_before P (suc i) (q ∷ qs) x at = set_before P i qs x at

-- if a property holds at a position, a run is there
pub stands_at : (P : Run → Type 0) (i : ℕ) (runs : List Run) → At P i runs → (r : Run) × At (λ q. q ≡ r) i runs
stands_at P i [] at = absurd at
stands_at P zero (q ∷ qs) at = (q, refl)
stands_at P (suc i) (q ∷ qs) at = stands_at P i qs at

-- the facts of a run that is read at a position of an ordered list
pub record IsThere (P : Run → Type 0) (runs : List Run) (i : ℕ) (r : Run) : Type 0 where
  pub at : At (λ q. q ≡ r) i runs
  pub is : P r
  pub some : 1 ≤ r.count
  pub bound : r.first + r.count ≤ 65535
  pub lt : i < length runs

pub there : (P : Run → Type 0) (runs : List Run) (i : ℕ) (r : Run) → AreInOrder 0 runs → At P i runs
    → r ≡ get_or runs i r → IsThere P runs i r
there P runs i r order holds read =
    let at = at_index P runs i r holds read in
    let stands = order_at 0 runs i r order at in
    record {
      at = at;
      is = at_is P runs i r holds at;
      some = stands.some;
      bound = omega (arith, stands.bound, most_is);
      lt = at_within P runs i holds;
    }

-- # Laws of the search for the run that has a section.

-- the runs before the lower bound end at or before the section, and those from the upper bound on begin after it
pub record IsSought (runs : List Run) (s low high : ℕ) : Type 0 where
  pub ends : low ≤ high
  pub bound : high ≤ length runs
  pub before : (i : ℕ) (d : Run) → i < low → i < length runs → (get_or runs i d).first + (get_or runs i d).count ≤ s
  pub after : (i : ℕ) (d : Run) → high ≤ i → i < length runs → s < (get_or runs i d).first

module _ (runs : List Run) (s low high middle : ℕ) (e : Run) (order : AreInOrder 0 runs)
    (sought : IsSought runs s low high) (from : low ≤ middle) (to : middle < high) where
  bounded : middle < length runs
  bounded = omega (arith, to, sought.bound)

  stands : (d : Run) → get_or runs middle d ≡ get_or runs middle e
  stands d = get_or_default runs middle d e bounded

  first_later : (d : Run) (i : ℕ) → (get_or runs middle d).first + (get_or runs middle d).count
      ≤ (get_or runs i d).first → (get_or runs middle e).first ≤ (get_or runs i d).first
  first_later d i later =
      let is_after : (get_or runs middle e).first + (get_or runs middle e).count ≤ (get_or runs i d).first =
      subst (λ q. q.first + q.count ≤ (get_or runs i d).first) (stands d) later in
      omega (arith, is_after)

  end_before : (d : Run) (i : ℕ) → (get_or runs i d).first + (get_or runs i d).count ≤ (get_or runs middle d).first
      → (get_or runs i d).first + (get_or runs i d).count ≤ (get_or runs middle e).first
  end_before d i ahead = subst (λ q. (get_or runs i d).first + (get_or runs i d).count ≤ q.first) (stands d) ahead

  pub lower : s < (get_or runs middle e).first → IsSought runs s low middle
  lower begins = record {
    ends = from;
    bound = omega (arith, bounded);
    before = sought.before;
    after = λ i d le lt. elim (cases_order middle i) [
      | inl same ↦ subst (λ n. s < (get_or runs n d).first) same (subst (λ q. s < q.first) (sym (stands d)) begins)
      | inr other ↦ elim other [
        | inl less ↦ let later = first_later d i (one_after_another 0 runs middle i d order less lt) in
            omega (arith, begins, later)
        | inr more ↦ absurd (let no : ⊥ = omega (arith, le, more) in no)
      ]
    ];
  }

  pub raise : (get_or runs middle e).first + (get_or runs middle e).count ≤ s → IsSought runs s (middle + 1) high
  raise ends = record {
    ends = omega (arith, to);
    bound = sought.bound;
    before = λ i d lt within. elim (cases_order i middle) [
      | inl same ↦ subst (λ n. (get_or runs n d).first + (get_or runs n d).count ≤ s) (sym same)
          (subst (λ q. q.first + q.count ≤ s) (sym (stands d)) ends)
      | inr other ↦ elim other [
        | inl less ↦ let ahead = end_before d i (one_after_another 0 runs i middle d order less bounded) in
            omega (arith, ends, ahead)
        | inr more ↦ absurd (let no : ⊥ = omega (arith, lt, more) in no)
      ]
    ];
    after = sought.after;
  }

pub found_none : (runs : List Run) (s low high : ℕ) → IsSought runs s low high → high ≤ low → spot_at runs s ≡ None
found_none runs s low high sought met = spot_none runs s (λ i d lt. elim (cases_lt i low) [
  | inl before ↦ within_after (sections_of (get_or runs i d)) s (sought.before i d before lt)
  | inr after ↦ within_before (sections_of (get_or runs i d)) s (sought.after i d (omega (arith, met, after)) lt)
])
