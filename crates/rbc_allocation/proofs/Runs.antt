-- The sections of a run, and sections that are taken into use for a train.
use Rattle.std.proofs.Common.{◌++◌, ◌+◌, ◌<◌, ◌==◌, ◌||◌, ◌∙◌, ◌≡◌, ◌≤◌, ap, arith, cond, false, inl, inr, length}
use Rattle.std.proofs.Common.{length-append, nat_lt, not, refl, replicate, suc, true, zero, ℕ}
use Rattle.std.proofs.lemmas.Bool.{cases_Bool}
use Rattle.std.proofs.lemmas.Bool.Decides.{eqb_tells, nat_tests}
use Rattle.std.proofs.lemmas.List.{length-replicate}
use Rattle.rbc_allocation.specs.Sections.{TakesRun}
use Rattle.rbc_book.specs.Book.{entry_at, is_own, Pages, wish_at}
use Rattle.rbc_book.specs.Claim.{claimed, claims_on, claims_train}
use Rattle.rbc_book.specs.declared.claim.Claims.{Claims}
use Rattle.rbc_hand.specs.Hands.{Holding, one, run, takes}
use Rattle.rbc_hand.specs.Tokens.{Own}
use Rattle.rbc_spec.specs.Centre.{is_open, Taken}
use Rattle.rbc_spec.specs.SectionRuns.{SectionRun, within}

-- ## Runs

pub within_one : (s k : ℕ) → within (one s) k ≡ (k == s)
unfolding within
within_one s k = elim (eqb_tells k s) as (λ _. within (one s) k ≡ (k == s)) [
  | inl e ↦ grind (arith, nat_tests)
  | inr e ↦ grind (arith, nat_tests)
]

pub within_none : (first s : ℕ) → within (record { first = first; count = 0 }) s ≡ false
unfolding within
within_none first s = grind (arith, nat_tests)

-- one section more after the last
pub within_more : (first n s : ℕ)
    → within (record { first = first; count = n + 1 }) s
    ≡ (within (record { first = first; count = n }) s || within (one (first + n)) s)
unfolding within
within_more first n s = grind (arith, nat_tests)

-- one section more before the first
pub within_before : (first n s : ℕ)
    → within (record { first = first; count = n + 1 }) s
    ≡ (within (record { first = first + 1; count = n }) s || within (one first) s)
unfolding within
within_before first n s = grind (arith, nat_tests)

-- ## Taken

pub takes_none : (t first : ℕ) (book : Pages) → TakesRun t (record { first = first; count = 0 }) book book
takes_none t first book = record { homes = λ s. refl; entry = λ s. rw (within_none first s) refl; wish = λ s. refl }

-- all of a run, if they are open
pub takes_all : (t : ℕ) (r : SectionRun) (a b : Pages) → ((s : ℕ) → within r s ≡ true → is_open (entry_at a s) ≡ true)
    → ((s : ℕ) → is_own b s ≡ is_own a s)
    → ((s : ℕ) → entry_at b s ≡ cond (within r s) (Taken t) (entry_at a s)) → ((s : ℕ) → wish_at b s ≡ wish_at a s)
    → TakesRun t r a b
takes_all t r a b free homes entry wish = record {
  homes = homes;
  entry = λ s. entry s ∙ elim (cases_Bool (within r s)) [
    | inl has ↦ rw (has, free s has) refl
    | inr not ↦ rw not refl
  ];
  wish = wish;
}

-- a hand with `count` further own sections, from a first
pub record HasGrown (h g : Holding) (first count t : ℕ) : Type 0 where
  pub long : length g.holds ≡ length h.holds + count
  pub begins : g.first + length h.holds ≡ first
  pub holds : g.holds ≡ h.holds ++ replicate count (Own t)

pub grows : (h g : Holding) (first count t : ℕ) (claims : Claims)
    → claims ≡ claims_on (record { first = first; count = count }) t
    → (0 < length h.holds → h.first + length h.holds ≡ first)
    → g ≡ record {
      first = cond (length h.holds == 0) (claimed claims).first h.first;
      holds = h.holds ++ replicate (claimed claims).count (Own (claims_train claims));
    } → HasGrown h g first count t
grows h g first count t claims are next is = record {
  long = ap length holds ∙ length-append h.holds (replicate count (Own t))
      ∙ ap (λ n. length h.holds + n) (length-replicate count (Own t));
  begins = ap (λ (x : Holding). x.first + length h.holds) grown
      ∙ elim (eqb_tells (length h.holds) 0) as (λ _. cond (length h.holds == 0) first h.first + length h.holds
      ≡ first) [
        | inl e ↦ rw (e.0) (omega (arith, e.1))
        | inr e ↦ rw (e.0) (next (some (length h.holds) e.1))
      ];
  holds = holds;
}
  where
    grown : g ≡ record { first = cond (length h.holds == 0) first h.first; holds = h.holds ++ replicate count (Own t) }
    grown =
        is
        ∙ ap (λ (x : Claims). record {
          first = cond (length h.holds == 0) (claimed x).first h.first;
          holds = h.holds ++ replicate (claimed x).count (Own (claims_train x));
        }) are

    holds : g.holds ≡ h.holds ++ replicate count (Own t)
    holds = ap (λ (x : Holding). x.holds) grown

    some : (n : ℕ) → (n ≡ 0 → ⊥) → 0 < n
    some zero other = absurd (other refl)
    some (suc n) other = omega arith

-- the next one may follow the hand
pub takes_next : (h : Holding) (from n0 k count s : ℕ) → s ≡ from + k → length h.holds ≡ n0 + k
    → (0 < length h.holds → h.first + n0 ≡ from) → n0 + count ≤ 32 → from + count ≤ 65535 → k < count
    → takes (run h) s ≡ true
unfolding takes
takes_next h from n0 k count s is long begins most numbers lt =
    let a : nat_lt (length h.holds) 32 ≡ true = grind (arith, nat_tests) in
    let b : nat_lt s 65535 ≡ true = grind (arith, nat_tests) in
    rw (a, b)
    (elim (eqb_tells (length h.holds) 0) as (λ _. ((length h.holds == 0) || (s == h.first + length h.holds)) ≡ true) [
      | inl e ↦ rw (e.0) refl
      | inr e ↦
          rw (e.0)
          (same s (h.first + length h.holds) (let first : h.first + n0 ≡ from = begins (some (length h.holds) e.1) in
          omega (arith, first, is, long)))
    ])
  where
    some : (n : ℕ) → (n ≡ 0 → ⊥) → 0 < n
    some zero other = absurd (other refl)
    some (suc n) other = omega arith

    same : (x y : ℕ) → x ≡ y → (x == y) ≡ true
    same x y e = elim (eqb_tells x y) as (λ _. (x == y) ≡ true) [ inl h ↦ h.0 | inr h ↦ absurd (h.1 e) ]
