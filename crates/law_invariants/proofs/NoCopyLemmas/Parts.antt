-- The amounts of the parts of a hand, and of sections that leave a mission.
use Rattle.std.proofs.Common.{⊎_elim, ◌&&◌, ◌+◌, ◌-◌, ◌<◌, ◌==◌, ◌||◌, ◌∙◌, ◌≡◌, ◌≢◌, ◌≤◌, ◌⊎◌, ap, arith, Bool, eq-eqb}
use Rattle.std.proofs.Common.{eqb-true, false, if◌then◌else◌, inl, inr, leb-true, ltb-true, max, nat_le, nat_lt, refl}
use Rattle.std.proofs.Common.{subst, sym, true, ℕ}
use Rattle.std.proofs.lemmas.Bool.{and_from, and_parts, cases_eq, cases_lt, eqb-false, le-leb, lt-ltb, ne_eqb}
use Rattle.law_invariants.proofs.NoCopyLemmas.Tally.{gone, IsTally, part, part_away, Tally}
use Rattle.rbc_spec.proofs.Runs.{joined_empty, within_joined, within_none, within_part_before, within_part_from}
use Rattle.rbc_spec.proofs.Runs.{within_true}
use Rattle.rbc_spec.specs.Acts.{freed}
use Rattle.rbc_spec.specs.Centre.{Centre, Entry, is_open, is_out_for, is_taken_for, is_unused, is_used_for, Mission}
use Rattle.rbc_spec.specs.Centre.{Open, Out, Shut, Taken}
use Rattle.rbc_spec.specs.Line.{is_home, Line}
use Rattle.rbc_spec.specs.SectionRuns.{is_empty, joined, next_after, no_run, part_before, part_from, SectionRun, within}

-- the pool follows the hand at once, if there is one
abbrev pub Follows : Mission → Type 0
Follows m = is_empty m.pool ≡ false → m.pool.first ≡ next_after m.hand

-- an entry that is open is in no use
pub open_unused : (e : Entry) → is_open e ≡ true → is_unused e ≡ true
open_unused Shut h = refl
open_unused Open h = refl
open_unused (Taken t) h = cc
open_unused (Out t) h = cc

pub open_here : (u : ℕ) (e : Entry) → is_open e ≡ true → is_out_for u e ≡ false
open_here u Shut h = refl
open_here u Open h = refl
open_here u (Taken t) h = refl
open_here u (Out t) h = cc

module _ (y : Tally) where
  -- two parts of the run that share nothing
  pub two_parts : (a b r : SectionRun) → (within a y.section ≡ true → within r y.section ≡ true)
      → (within b y.section ≡ true → (within r y.section ≡ true) × (within a y.section ≡ false))
      → part y a + part y b ≤ part y r
  two_parts a b r in_a in_b = by_parts (within a y.section) (within b y.section) (within r y.section) in_a in_b
    where
      by_parts : (p q w : Bool) → (p ≡ true → w ≡ true) → (q ≡ true → (w ≡ true) × (p ≡ false))
          → (if p then y.weight else 0) + (if q then y.weight else 0) ≤ (if w then y.weight else 0)
      by_parts true true w one two = absurd (let wrong : true ≡ false = (two refl).1 in cc)
      by_parts true false true one two = omega arith
      by_parts true false false one two = absurd (let wrong : false ≡ true = one refl in cc)
      by_parts false true true one two = omega arith
      by_parts false true false one two = absurd (let wrong : false ≡ true = (two refl).0 in cc)
      by_parts false false w one two = omega arith

  pub less_part : (a r : SectionRun) → (within a y.section ≡ true → within r y.section ≡ true) → part y a ≤ part y r
  less_part a r in_a = by_parts (within a y.section) (within r y.section) in_a
    where
      by_parts : (p w : Bool) → (p ≡ true → w ≡ true) → (if p then y.weight else 0) ≤ (if w then y.weight else 0)
      by_parts true true one = omega arith
      by_parts true false one = absurd (let wrong : false ≡ true = one refl in cc)
      by_parts false w one = omega arith

  pub none_part : part y no_run ≡ 0
  none_part = by_within (within no_run y.section) refl
    where
      by_within : (b : Bool) → within no_run y.section ≡ b → (if b then y.weight else 0) ≡ 0
      by_within true is = absurd (let ends = within_true no_run y.section is in omega (arith, ends.0, ends.1))
      by_within false is = refl

  -- the run's part from a number on, and before it
  pub cut_parts : (cut : ℕ) (r : SectionRun) → part y (part_before cut r) + part y (part_from cut r) ≤ part y r
  cut_parts cut r = two_parts (part_before cut r) (part_from cut r) r
      (λ is. (and_parts (within r y.section) (nat_lt y.section cut) (sym (within_part_before r cut y.section) ∙ is)).0)
      (λ is. let both = and_parts (within r y.section) (nat_le cut y.section)
      (sym (within_part_from r cut y.section) ∙ is) in
      (both.0, not_before (within (part_before cut r) y.section) refl (leb-true cut y.section both.1)))
    where
      not_before : (b : Bool) → within (part_before cut r) y.section ≡ b → cut ≤ y.section → b ≡ false
      not_before false is le = refl
      not_before true is le =
          absurd (let low = ltb-true y.section cut
          (and_parts (within r y.section) (nat_lt y.section cut) (sym (within_part_before r cut y.section) ∙ is)).1 in
          omega (arith, low, le))

  pub from_part : (cut : ℕ) (r : SectionRun) → part y (part_from cut r) ≤ part y r
  from_part cut r =
      less_part (part_from cut r) r
      (λ is. (and_parts (within r y.section) (nat_le cut y.section) (sym (within_part_from r cut y.section) ∙ is)).0)

  -- a run and one that follows it
  pub joined_part : (a b : SectionRun) → (is_empty a ≡ false → is_empty b ≡ false → b.first ≡ next_after a)
      → part y (joined a b) ≤ part y a + part y b
  joined_part a b follows = by_empty (is_empty b) refl (is_empty a) refl
    where
      of_two : (p q : Bool) → (if p || q then y.weight else 0) ≤ (if p then y.weight else 0)
          + (if q then y.weight else 0)
      of_two true q = omega arith
      of_two false q = omega arith

      by_empty : (e : Bool) → is_empty b ≡ e → (f : Bool) → is_empty a ≡ f → part y (joined a b) ≤ part y a + part y b
      by_empty true none f is = omega (arith, ap (λ z. if z then y.weight else 0) (joined_empty a b y.section none))
      by_empty false some true is =
          omega (arith, ap (λ z. part y (if z then b else record { first = a.first; count = a.count + b.count })) is)
      by_empty false some false is =
          omega (
            arith,
            ap (λ z. if z then y.weight else 0) (within_joined a b y.section (follows is some)),
            of_two (within a y.section) (within b y.section),
          )

  pub empty_part : (r : SectionRun) → is_empty r ≡ true → part y r ≡ 0
  empty_part r none = ap (λ z. if z then y.weight else 0) (within_none r y.section (eqb-true r.count 0 none))

  -- nor less: the parts that cover the run have at least its amount
  pub covered_parts : (a b r : SectionRun)
      → (within r y.section ≡ true → (within a y.section ≡ true) ⊎ (within b y.section ≡ true))
      → part y r ≤ part y a + part y b
  covered_parts a b r in_r = by_parts (within a y.section) (within b y.section) (within r y.section) in_r
    where
      by_parts : (p q w : Bool) → (w ≡ true → (p ≡ true) ⊎ (q ≡ true))
          → (if w then y.weight else 0) ≤ (if p then y.weight else 0) + (if q then y.weight else 0)
      by_parts p q false one = omega arith
      by_parts true q true one = omega arith
      by_parts false true true one = omega arith
      by_parts false false true one = absurd (⊎_elim (λ (h : false ≡ true). cc) (λ (h : false ≡ true). cc) (one refl))

  pub cut_back : (cut : ℕ) (r : SectionRun) → part y r ≤ part y (part_before cut r) + part y (part_from cut r)
  cut_back cut r = covered_parts (part_before cut r) (part_from cut r) r
      (λ in_r. ⊎_elim
      (λ (low : y.section < cut). inl (within_part_before r cut y.section
      ∙ and_from (within r y.section) (nat_lt y.section cut) in_r (lt-ltb y.section cut low)))
      (λ (high : cut ≤ y.section). inr (within_part_from r cut y.section
      ∙ and_from (within r y.section) (nat_le cut y.section) in_r (le-leb cut y.section high)))
      (cases_lt y.section cut))

  pub joined_back : (a b : SectionRun) → (is_empty a ≡ false → is_empty b ≡ false → b.first ≡ next_after a)
      → part y a + part y b ≤ part y (joined a b)
  joined_back a b follows = by_empty (is_empty b) refl (is_empty a) refl
    where
      of_two : (p q : Bool) → (p ≡ true → q ≡ true → ⊥) → (if p then y.weight else 0) + (if q then y.weight else 0)
          ≤ (if p || q then y.weight else 0)
      of_two true true apart = absurd (apart refl refl)
      of_two true false apart = omega arith
      of_two false q apart = omega arith

      by_empty : (e : Bool) → is_empty b ≡ e → (f : Bool) → is_empty a ≡ f → part y a + part y b ≤ part y (joined a b)
      by_empty true none f is =
          omega (arith, ap (λ z. if z then y.weight else 0) (joined_empty a b y.section none), empty_part b none)
      by_empty false some true is =
          omega (
            arith,
            ap (λ z. part y (if z then b else record { first = a.first; count = a.count + b.count })) is,
            empty_part a is,
          )
      by_empty false some false is = omega (
        arith,
        ap (λ z. if z then y.weight else 0) (within_joined a b y.section (follows is some)),
        of_two (within a y.section) (within b y.section) (λ in_a in_b. let low = within_true a y.section in_a in
            let high = within_true b y.section in_b in omega (arith, low.1, high.0, follows is some)),
      )

  -- a section in neither of two runs is not in both joined
  pub out_of_joined : (a b : SectionRun) → (is_empty a ≡ false → is_empty b ≡ false → b.first ≡ next_after a)
      → within a y.section ≡ false → within b y.section ≡ false → within (joined a b) y.section ≡ false
  out_of_joined a b follows out_a out_b = by_empty (is_empty b) refl (is_empty a) refl
    where
      by_empty : (e : Bool) → is_empty b ≡ e → (f : Bool) → is_empty a ≡ f → within (joined a b) y.section ≡ false
      by_empty true none f is = joined_empty a b y.section none ∙ out_a
      by_empty false some true is =
          ap (λ z. within (if z then b else record { first = a.first; count = a.count + b.count }) y.section) is ∙ out_b
      by_empty false some false is = within_joined a b y.section (follows is some)
          ∙ ap (λ z. z || within b y.section) out_a ∙ out_b

  -- a section in both joined is in one of them
  pub in_joined : (a b : SectionRun) → (is_empty a ≡ false → is_empty b ≡ false → b.first ≡ next_after a)
      → within (joined a b) y.section ≡ true → (within a y.section ≡ true) ⊎ (within b y.section ≡ true)
  in_joined a b follows is = by_parts (within a y.section) refl (within b y.section) refl
    where
      by_parts : (p : Bool) → within a y.section ≡ p → (q : Bool) → within b y.section ≡ q → (p ≡ true) ⊎ (q ≡ true)
      by_parts true in_a q in_b = inl refl
      by_parts false in_a true in_b = inr refl
      by_parts false in_a false in_b = absurd (let wrong : true ≡ false = sym is
          ∙ out_of_joined a b follows in_a in_b in cc)

  -- the tail of a hand, with its pool
  pub tail_follows : (cut : ℕ) (m : Mission) → Follows m → is_empty (part_from cut m.hand) ≡ false
      → is_empty m.pool ≡ false → m.pool.first ≡ next_after (part_from cut m.hand)
  tail_follows cut m follows some pool = let more = eqb-false (part_from cut m.hand).count 0 some in
      follows pool ∙ ends (max m.hand.first cut) more
    where
      ends : (x : ℕ) → next_after m.hand - x ≢ 0 → next_after m.hand ≡ x + (next_after m.hand - x)
      ends x more = ⊎_elim (λ (none : next_after m.hand - x ≡ 0). absurd (more none))
          (λ (some : next_after m.hand - x ≢ 0). over x (next_after m.hand) some) (cases_eq (next_after m.hand - x) 0)
        where
          over : (p q : ℕ) → q - p ≢ 0 → q ≡ p + (q - p)
          over p q some = omega (arith, some)

module _ (line : Line) (c : ℕ) (y : Tally) (is : IsTally line c y) where
  pub gone_here : (t : ℕ) (r : SectionRun) → gone y t r ≤ part_away y r
  gone_here t r = by_train (t == y.train)
    where
      by_train : (b : Bool) → (if b then part_away y r else 0) ≤ part_away y r
      by_train true = omega arith
      by_train false = omega arith

  pub gone_other : (t : ℕ) (r : SectionRun) → t ≢ y.train → gone y t r ≡ 0
  gone_other t r other = ap (λ b. if b then part_away y r else 0) (ne_eqb t y.train other)

  pub away_part : (r : SectionRun) → part_away y r ≤ part y r
  away_part r = by_within (within r y.section)
    where
      by_within : (b : Bool) → (if b then y.away else 0) ≤ (if b then y.weight else 0)
      by_within true = is.light
      by_within false = omega arith

  pub gone_back : (t : ℕ) (r : SectionRun) → t ≡ y.train → part_away y r ≤ gone y t r
  gone_back t r here = omega (arith, ap (λ b. if b then part_away y r else 0) (eq-eqb t y.train here))

  pub part_gone : y.exact ≡ true → (t : ℕ) (r : SectionRun) → t ≡ y.train → part y r ≤ gone y t r
  part_gone so t r here = omega (arith, gone_back t r here, by_within (within r y.section))
    where
      by_within : (b : Bool) → (if b then y.weight else 0) ≤ (if b then y.away else 0)
      by_within true = (is.back so).heavy
      by_within false = omega arith

  pub taken_here : (t u : ℕ) (e : Entry) → is_taken_for t e ≡ true → is_out_for u e ≡ false
  taken_here t u Shut h = refl
  taken_here t u Open h = refl
  taken_here t u (Taken v) h = refl
  taken_here t u (Out v) h = cc

  pub given_here : (wish : Bool) (u : ℕ) → is_out_for u (if wish then Shut else Open) ≡ false
  given_here true u = refl
  given_here false u = refl

  -- sections that are given back were here
  pub freed_back : y.exact ≡ true → (t : ℕ) (r : SectionRun) (k : Centre)
      → y.entry ((freed line c (is_taken_for t) r k).state.book y.section) ≤ y.entry (k.book y.section)
  freed_back so t r k = by_tests (within r y.section && is_home line c y.section)
      (is_taken_for t (k.book y.section)) refl
    where
      by_tests : (w x : Bool) → is_taken_for t (k.book y.section) ≡ x
          → y.entry (if w && x then (if k.wish y.section then Shut else Open) else k.book y.section)
          ≤ y.entry (k.book y.section)
      by_tests false x taken = omega arith
      by_tests true false taken = omega arith
      by_tests true true taken = (is.back so).here (if k.wish y.section then Shut else Open) (k.book y.section)
          (given_here (k.wish y.section) y.train) (taken_here t y.train (k.book y.section) taken)

  -- the own sections of a run that leaves are given back, the others are returned
  pub freed_here : (t : ℕ) (r : SectionRun) (k : Centre) → t ≡ y.train
      → gone y t r + y.entry (k.book y.section) ≤ y.entry ((freed line c (is_taken_for t) r k).state.book y.section)
      + part y r
  freed_here t r k here =
      omega (
        arith,
        gone_here t r,
        by_tests (within r y.section) (is_home line c y.section) refl
            (is_taken_for t (k.book y.section)) refl,
      )
    where
      e : Entry
      e = k.book y.section

      by_tests : (w h : Bool) → is_home line c y.section ≡ h → (x : Bool) → is_taken_for t (k.book y.section) ≡ x
          → (if w then y.away else 0) + y.entry (k.book y.section)
          ≤ y.entry (if (w && h) && x then (if k.wish y.section then Shut else Open) else k.book y.section)
          + (if w then y.weight else 0)
      by_tests false h home x taken = omega arith
      by_tests true false home x taken = omega (arith, is.light)
      by_tests true true home false taken = omega (arith, is.light)
      by_tests true true home true taken =
          (is.frees (k.book y.section) (if k.wish y.section then Shut else Open) home
          (subst (λ u. is_taken_for u (k.book y.section) ≡ true) here taken)).0

  pub used_taken : (t : ℕ) (e : Entry) → is_taken_for t e ≡ true → is_used_for t e ≡ true
  used_taken t Shut h = cc
  used_taken t Open h = cc
  used_taken t (Taken u) h = h
  used_taken t (Out u) h = cc

  pub freed_other : (t : ℕ) (r : SectionRun) (k : Centre) → t ≢ y.train
      → gone y t r + y.entry (k.book y.section) ≤ y.entry ((freed line c (is_taken_for t) r k).state.book y.section)
  freed_other t r k other =
      omega (
        arith,
        gone_other t r other,
        by_tests (within r y.section && is_home line c y.section)
            (is_taken_for t (k.book y.section)) refl,
      )
    where
      by_tests : (w x : Bool) → is_taken_for t (k.book y.section) ≡ x
          → y.entry (k.book y.section)
          ≤ y.entry (if w && x then (if k.wish y.section then Shut else Open) else k.book y.section)
      by_tests false x taken = omega arith
      by_tests true false taken = omega arith
      by_tests true true taken = is.other t (k.book y.section) (if k.wish y.section then Shut else Open) other
          (used_taken t (k.book y.section) taken)
