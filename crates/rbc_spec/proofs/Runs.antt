-- Laws of runs, and of the longest run under a test.
use Rattle.std.proofs.Common.{⊎_elim, ◌&&◌, ◌++◌, ◌+◌, ◌-◌, ◌<◌, ◌==◌, ◌||◌, ◌∙◌, ◌≡◌, ◌≢◌, ◌≤◌, ◌⊎◌, ap, arith, Bool}
use Rattle.std.proofs.Common.{eq-eqb, eqb-true, false, inl, inr, le-leb, le-ltb, le_antisymm, leb-true, lt-ltb}
use Rattle.std.proofs.Common.{ltb-true, nat_le, nat_lt, refl, subst, suc, sym, true, zero, ℕ}
use Rattle.std.proofs.lemmas.Bool.{and_from, and_left, and_parts, and_right, both_ways, cases_Bool, cases_eq, cases_lt}
use Rattle.std.proofs.lemmas.Bool.{cond-false, cond-true, eqb-false, false_from_ne_true, lt-leb, ne_eqb, or_cases}
use Rattle.std.proofs.lemmas.Bool.{or_left, or_right}
use Rattle.std.proofs.lemmas.Bool.Decides.{eqb_tells}
use Rattle.std.proofs.lemmas.List.{append-nil}
use Rattle.std.proofs.lemmas.List.Elements.{filter-append}
use Rattle.std.specs.List.{filter, range_with_len}
use Rattle.rbc_spec.proofs.Lists.{all_from, each_of, filter-range_none, range-append}
use Rattle.rbc_spec.specs.SectionRuns.{IsLongest}
use Rattle.rbc_spec.specs.SectionRuns.{all_of, is_empty, joined, longest, next_after, no_run, part_before, part_from}
use Rattle.rbc_spec.specs.SectionRuns.{SectionRun, shared, within}

-- # Laws of runs: their members, the sections that two share, a run cut in two or joined, and tests of a run's
-- sections.

-- a section within a run is between its ends
pub within_true : (r : SectionRun) (s : ℕ) → within r s ≡ true → (r.first ≤ s) × (s < r.first + r.count)
unfolding within
within_true r s in_run =
    let both = and_parts (nat_le r.first s) (nat_lt s (r.first + r.count)) in_run in
    (leb-true r.first s both.0, ltb-true s (r.first + r.count) both.1)

-- a number between the ends is within the run
pub within_from : (r : SectionRun) (s : ℕ) → r.first ≤ s → s < r.first + r.count → within r s ≡ true
unfolding within
within_from r s low high =
    and_from (nat_le r.first s) (nat_lt s (r.first + r.count)) (le-leb r.first s low)
    (lt-ltb s (r.first + r.count) high)

-- a number before the run is not
pub within_before : (r : SectionRun) (s : ℕ) → s < r.first → within r s ≡ false
unfolding within
within_before r s low = and_left (nat_le r.first s) (nat_lt s (r.first + r.count)) (lt-leb r.first s low)

-- nor is one after it
pub within_after : (r : SectionRun) (s : ℕ) → r.first + r.count ≤ s → within r s ≡ false
unfolding within
within_after r s high = and_right (nat_le r.first s) (nat_lt s (r.first + r.count)) (le-ltb s (r.first + r.count) high)

-- nothing is within an empty run
pub within_none : (r : SectionRun) (s : ℕ) → r.count ≡ 0 → within r s ≡ false
within_none r s none = ⊎_elim (λ (low : s < r.first). within_before r s low)
    (λ (high : r.first ≤ s). within_after r s (omega arith)) (cases_lt s r.first)

-- two tests agree if each implies the other
pub same_tests : (a b : Bool) → (a ≡ true → b ≡ true) → (b ≡ true → a ≡ true) → a ≡ b
same_tests true b to from = sym (to refl)
same_tests false true to from = from refl
same_tests false false to from = refl

pub within_part_before : (r : SectionRun) (cut s : ℕ) → within (part_before cut r) s ≡ (within r s && nat_lt s cut)
within_part_before r cut s = same_tests _ _
    (λ part. let ends = within_true (part_before cut r) s part in
    and_from (within r s) (nat_lt s cut) (within_from r s (omega arith) (omega arith)) (lt-ltb s cut (omega arith)))
    (λ both. let parts = and_parts (within r s) (nat_lt s cut) both in
    let ends = within_true r s parts.0 in
    let low : s < cut = ltb-true s cut parts.1 in
    within_from (part_before cut r) s (omega arith) (omega arith))

pub within_part_from : (r : SectionRun) (cut s : ℕ) → within (part_from cut r) s ≡ (within r s && nat_le cut s)
within_part_from r cut s = same_tests _ _
    (λ part. let ends = within_true (part_from cut r) s part in
    and_from (within r s) (nat_le cut s) (within_from r s (omega arith) (omega arith)) (le-leb cut s (omega arith)))
    (λ both. let parts = and_parts (within r s) (nat_le cut s) both in
    let ends = within_true r s parts.0 in
    let high : cut ≤ s = leb-true cut s parts.1 in
    within_from (part_from cut r) s (omega arith) (omega arith))

pub parts_count : (r : SectionRun) (cut : ℕ) → (part_before cut r).count + (part_from cut r).count ≡ r.count
parts_count r cut = omega arith

pub within_shared : (a b : SectionRun) (s : ℕ) → within (shared a b) s ≡ (within a s && within b s)
within_shared a b s = same_tests _ _
    (λ in_both. let ends = within_true (shared a b) s in_both in
    and_from (within a s) (within b s) (within_from a s (omega arith) (omega arith))
    (within_from b s (omega arith) (omega arith)))
    (λ both. let parts = and_parts (within a s) (within b s) both in
    let one = within_true a s parts.0 in
    let two = within_true b s parts.1 in
    within_from (shared a b) s (omega arith) (omega arith))

-- ## Joined runs

none_joined : (a b : SectionRun) → a.count ≡ 0 → joined a b ≡ b
none_joined a b none = cond-true (is_empty a) b (record { first = a.first; count = a.count + b.count })
    (eq-eqb a.count 0 none)

some_joined : (a b : SectionRun) → a.count ≢ 0 → joined a b ≡ record { first = a.first; count = a.count + b.count }
some_joined a b some = cond-false (is_empty a) b (record { first = a.first; count = a.count + b.count })
    (ne_eqb a.count 0 some)

-- a hand that is not empty and a run that follows it
pub joined_is : (hand : SectionRun) (n : ℕ) → 1 ≤ hand.count
    → joined hand (record { first = next_after hand; count = n })
    ≡ record { first = hand.first; count = hand.count + n }
joined_is hand n some = cond-false (is_empty hand) _ _ (ne_eqb hand.count 0 (λ e. omega arith))

pub joined_count : (a b : SectionRun) → (joined a b).count ≡ a.count + b.count
joined_count a b = ⊎_elim
    (λ (none : a.count ≡ 0). ap (λ (r : SectionRun). r.count) (none_joined a b none) ∙ (omega arith))
    (λ (some : a.count ≢ 0). ap (λ (r : SectionRun). r.count) (some_joined a b some))
    (cases_eq a.count 0)

within_both : (a b : SectionRun) (s : ℕ) → b.first ≡ next_after a
    → within (record { first = a.first; count = a.count + b.count }) s ≡ (within a s || within b s)
within_both a b s follows = same_tests _ _
    (λ whole. let ends = within_true (record { first = a.first; count = a.count + b.count }) s whole in ⊎_elim
    (λ (low : s < a.first + a.count). or_left (within a s) (within b s) (within_from a s (omega arith) low))
    (λ (high : a.first + a.count ≤ s). or_right (within a s) (within b s) (within_from b s (omega arith) (omega arith)))
    (cases_lt s (a.first + a.count)))
    (λ part. ⊎_elim
    (λ (low : within a s ≡ true). let ends = within_true a s low in
    within_from (record { first = a.first; count = a.count + b.count }) s (omega arith) (omega arith))
    (λ (high : within b s ≡ true). let ends = within_true b s high in
    within_from (record { first = a.first; count = a.count + b.count }) s (omega arith) (omega arith))
    (or_cases (within a s) (within b s) part))

pub within_joined : (a b : SectionRun) (s : ℕ) → b.first ≡ next_after a
    → within (joined a b) s ≡ (within a s || within b s)
within_joined a b s follows = ⊎_elim
    (λ (none : a.count ≡ 0). ap (λ r. within r s) (none_joined a b none)
    ∙ ap (λ x. x || within b s) (sym (within_none a s none)))
    (λ (some : a.count ≢ 0). ap (λ r. within r s) (some_joined a b some) ∙ within_both a b s follows)
    (cases_eq a.count 0)

-- two runs with the same ends are one
pub same_run : (r q : SectionRun) → r.first ≡ q.first → r.count ≡ q.count → r ≡ q
same_run r q first count = λ i. record { first = first i; count = count i }

pub joined_empty : (a b : SectionRun) (s : ℕ) → is_empty b ≡ true → within (joined a b) s ≡ within a s
joined_empty a b s empty =
    let nothing : b.count ≡ 0 = eqb-true b.count 0 empty in ⊎_elim
    (λ (none : a.count ≡ 0). ap (λ r. within r s) (none_joined a b none) ∙ within_none b s nothing
    ∙ sym (within_none a s none))
    (λ (some : a.count ≢ 0). ap (λ r. within r s)
    (some_joined a b some ∙ same_run (record { first = a.first; count = a.count + b.count }) a refl (omega arith)))
    (cases_eq a.count 0)

pub joined_again : (r : SectionRun) (cut : ℕ) → r.first ≤ cut → cut ≤ next_after r
    → joined (part_before cut r) (part_from cut r) ≡ r
joined_again r cut low high = ⊎_elim
    (λ (none : (part_before cut r).count ≡ 0). none_joined (part_before cut r) (part_from cut r) none
    ∙ same_run (part_from cut r) r (omega arith) (omega arith))
    (λ (some : (part_before cut r).count ≢ 0). some_joined (part_before cut r) (part_from cut r) some
    ∙ same_run (record { first = r.first; count = (part_before cut r).count + (part_from cut r).count })
    r refl (parts_count r cut))
    (cases_eq (part_before cut r).count 0)

-- runs that are not empty and have the same sections are one run
pub run_only : (r q : SectionRun) → is_empty r ≡ false → ((s : ℕ) → within r s ≡ within q s) → r ≡ q
run_only r q some same =
    let more : r.count ≢ 0 = eqb-false r.count 0 some in
    let low = within_true q r.first (sym (same r.first) ∙ within_from r r.first (omega arith) (omega arith)) in
    let low' = within_true r q.first (same q.first ∙ within_from q q.first (omega arith) (omega arith)) in
    let last : ℕ = r.first + r.count - 1 in
    let last' : ℕ = q.first + q.count - 1 in
    let high = within_true q last (sym (same last) ∙ within_from r last (omega arith) (omega arith)) in
    let high' = within_true r last' (same last' ∙ within_from q last' (omega arith) (omega arith)) in
    same_run r q (omega arith) (omega arith)

-- ## Tests of the sections of a run

-- if all sections of a run pass, each does
pub each_within : (test : ℕ → Bool) (r : SectionRun) → all_of test r ≡ true → (s : ℕ)
    → within r s ≡ true → test s ≡ true
each_within test r all s so = let ends = within_true r s so in each_of test r.first r.count all s ends.0 ends.1

pub all_within : (test : ℕ → Bool) (r : SectionRun) → ((s : ℕ) → within r s ≡ true → test s ≡ true)
    → all_of test r ≡ true
all_within test r each = all_from test r.first r.count (λ s low high. each s (within_from r s low high))

-- if only sections of a run pass a test, a search through that run finds them
pub filter_run : (test : ℕ → Bool) (r : SectionRun) (n : ℕ) → ((s : ℕ) → test s ≡ true → within r s ≡ true)
    → ((s : ℕ) → within r s ≡ true → s < n)
    → filter test (range_with_len 0 n) ≡ filter test (range_with_len r.first r.count)
filter_run test r n only inside = by_count r.count refl
  where
    out : (s : ℕ) → within r s ≡ false → test s ≡ false
    out s away = false_from_ne_true (test s) (λ passes. both_ways (within r s) away (only s passes))

    by_count : (k : ℕ) → r.count ≡ k → filter test (range_with_len 0 n) ≡ filter test (range_with_len r.first r.count)
    by_count zero is =
        filter-range_none test 0 n (λ s low high. out s (by_place s (cases_lt s r.first)))
        ∙ ap (λ k. filter test (range_with_len r.first k)) (sym is)
      where
        by_place : (s : ℕ) → (s < r.first) ⊎ (r.first ≤ s) → within r s ≡ false
        by_place s (inl low) = within_before r s low
        by_place s (inr high) = within_after r s (omega (arith, is))
    by_count (suc k) is =
        let last : ℕ = r.first + k in
        let below : last < n = inside last (within_from r last (omega arith) (omega (arith, is))) in
        let rest : ℕ = n - (r.first + r.count) in
        let whole : n ≡ r.first + (r.count + rest) = omega (arith, is, below) in
        ap (λ m. filter test (range_with_len 0 m)) whole
        ∙ ap (filter test) (range-append 0 r.first (r.count + rest))
        ∙ filter-append test (range_with_len 0 r.first) (range_with_len (0 + r.first) (r.count + rest))
        ∙ ap (λ xs. xs ++ filter test (range_with_len (0 + r.first) (r.count + rest)))
        (filter-range_none test 0 r.first (λ s low high. out s (within_before r s (omega arith))))
        ∙ ap (λ k. filter test (range_with_len k (r.count + rest))) (let e : 0 + r.first ≡ r.first = omega arith in e)
        ∙ ap (filter test) (range-append r.first r.count rest)
        ∙ filter-append test (range_with_len r.first r.count) (range_with_len (r.first + r.count) rest)
        ∙ ap (λ xs. filter test (range_with_len r.first r.count) ++ xs)
        (filter-range_none test (r.first + r.count) rest (λ s low high. out s (within_after r s low)))
        ∙ append-nil (filter test (range_with_len r.first r.count))

-- ## No run, and a run joined with it

pub some_count : (n : ℕ) → 1 ≤ n → (n == 0) ≡ false
some_count n some =
    elim (eqb_tells n 0) [
      | inl e ↦ absurd (let same = e.1 in let wrong : ⊥ = omega (arith, same) in wrong)
      | inr e ↦ e.0
    ]

pub none_within : (s : ℕ) → within no_run s ≡ false
none_within s = within_after no_run s (omega arith)

-- # Laws of the longest run under a test.

-- the run of `count` sections from the first on
abbrev pub from : ℕ → ℕ → SectionRun
from first count = record { first = first; count = count }

longest_yes : (test : ℕ → Bool) (first most count : ℕ) → IsLongest test (first + 1) most count → test first ≡ true
    → IsLongest test first (suc most) (suc count)
longest_yes test first most count rest passes = record {
  fits = omega (arith, rest.fits);
  each = λ s in_run. let ends = within_true (from first (suc count)) s in_run in ⊎_elim
      (λ (later : first < s). rest.each s (within_from (from (first + 1) count) s (omega arith) (omega arith)))
      (λ (here : s ≤ first). let same : s ≡ first = omega arith in ap test same ∙ passes)
      (cases_lt first s);
  ends = λ more. let after : first + suc count ≡ first + 1 + count = omega arith in
      ap test after ∙ rest.ends (omega arith);
}

longest_none : (test : ℕ → Bool) (first most : ℕ) → (0 < most → test first ≡ false) → IsLongest test first most 0
longest_none test first most fails = record {
  fits = omega arith;
  each = λ s in_run. absurd (both_ways (within (from first 0) s) (within_none (from first 0) s (omega arith)) in_run);
  ends = λ more. let after : first + 0 ≡ first = omega arith in ap test after ∙ fails more;
}

-- the longest run under a test: each section in it passes, and the next fails or the limit is reached
pub longest_is : (test : ℕ → Bool) (first most : ℕ) → IsLongest test first most (longest test first most)
unfolding longest
longest_is test first zero = longest_none test first 0 (λ more. absurd (omega arith))
longest_is test first (suc most) = ⊎_elim
    (λ (passes : test first ≡ true). subst (IsLongest test first (suc most))
    (sym (cond-true (test first) (suc (longest test (first + 1) most)) 0 passes))
    (longest_yes test first most (longest test (first + 1) most) (longest_is test (first + 1) most) passes))
    (λ (fails : test first ≡ false). subst (IsLongest test first (suc most))
    (sym (cond-false (test first) (suc (longest test (first + 1) most)) 0 fails))
    (longest_none test first (suc most) (λ more. fails)))
    (cases_Bool (test first))

not_longer : (test : ℕ → Bool) (first most n m : ℕ) → IsLongest test first most n → IsLongest test first most m → n ≤ m
not_longer test first most n m one two = ⊎_elim
    (λ (less : m < n). absurd
    (both_ways (test (first + m)) (two.ends (omega (arith, one.fits)))
    (one.each (first + m) (within_from (from first n) (first + m) (omega arith) (omega arith)))))
    (λ (le : n ≤ m). le)
    (cases_lt m n)

-- there is one longest run
pub longest_only : (test : ℕ → Bool) (first most n m : ℕ) → IsLongest test first most n
    → IsLongest test first most m → n ≡ m
longest_only test first most n m one two =
    le_antisymm (not_longer test first most n m one two) (not_longer test first most m n two one)

pub longest_few : (test : ℕ → Bool) (first most : ℕ) → longest test first most ≤ most
longest_few test first most = (longest_is test first most).fits

pub longest_each : (test : ℕ → Bool) (first most s : ℕ) → first ≤ s
    → s < first + longest test first most → test s ≡ true
longest_each test first most s low high =
    (longest_is test first most).each s (within_from (from first (longest test first most)) s low high)
