-- Tests of all sections of a run, its first section, and the sections that may follow a hand.
use Rattle.std.proofs.Common.{◌&&◌, ◌+◌, ◌-◌, ◌<◌, ◌==◌, ◌||◌, ◌∙◌, ◌≡◌, ◌≤◌, ap, arith, Bool, false, is_some, length}
use Rattle.std.proofs.Common.{nat_eq, nat_le, None, Option, refl, Some, suc, sym, true, zero, ℕ}
use Rattle.std.proofs.lemmas.Bool.Decides.{nat_tests}
use Rattle.std.proofs.lemmas.Option.{slice_get_past}
use Rattle.std.specs.List.{find, list_all, range_with_len}
use Rattle.std.specs.Option.{option_eq, option_map_or}
use Rattle.rbc_book.specs.Book.{entry_at, is_own, page_of, Pages}
use Rattle.rbc_book.specs.declared.page.Page.{Page}
use Rattle.rbc_book.specs.Entries.{entry_of}
use Rattle.rbc_grant.specs.Grants as grants
use Rattle.rbc_spec.specs.Centre.{Centre, is_free, is_open, is_registrar_of, Mission, Shut}
use Rattle.rbc_spec.specs.Line.{end, is_home, Line, registrar}
use Rattle.rbc_spec.specs.Place.{has_room}
use Rattle.rbc_spec.specs.Rules.{may_follow}
use Rattle.rbc_spec.specs.SectionRuns.{all_of, longest, next_after, SectionRun, within}
use Rattle.rbc_spec.specs.Sections.{is_on}

-- # The first of a run of sections, and whether there is one.

-- none of a range that does not pass
pub find-range_none : (test : ℕ → Bool) (a n : ℕ) → ((s : ℕ) → a ≤ s → s < a + n → test s ≡ false)
    → find test (range_with_len a n) ≡ None
find-range_none test a zero none = refl
find-range_none test a (suc n) none =
    rw (none a (omega arith) (omega arith))
    (find-range_none test (a + 1) n (λ s low high. none s (omega (arith, low)) (omega (arith, high))))

-- # Tests of all sections of a run, and the sections that may follow a hand.

-- ## All of a run

pub all_each : (test : ℕ → Bool) (n f : ℕ) → ((j : ℕ) → j < n → test (f + j) ≡ true)
    → list_all test (range_with_len f n) ≡ true
all_each test zero f each = refl
all_each test (suc n) f each =
    let here : test f ≡ true = ap test (let e : f ≡ f + 0 = omega arith in e) ∙ each 0 (omega arith) in
    let others =
    all_each test n (f + 1) (λ j h. ap test (let e : f + 1 + j ≡ f + (j + 1) = omega arith in e)
    ∙ each (j + 1) (omega arith)) in
    rw (here) others

pub all_fails : (test : ℕ → Bool) (n f j : ℕ) → j < n → test (f + j) ≡ false
    → list_all test (range_with_len f n) ≡ false
all_fails test zero f j h e = absurd (omega arith)
all_fails test (suc n) f zero h e = let here : test f ≡ false = ap test (let e : f ≡ f + 0 = omega arith in e) ∙ e in
    rw here refl
all_fails test (suc n) f (suc j) h e =
    let others =
    all_fails test n (f + 1) j (omega arith) (ap test (let e : f + 1 + j ≡ f + suc j = omega arith in e) ∙ e) in
    by_first (test f) others
  where
    by_first : (b : Bool) → list_all test (range_with_len (f + 1) n) ≡ false
        → (b && list_all test (range_with_len (f + 1) n)) ≡ false
    by_first true h = h
    by_first false h = refl

-- all of one run are within another
pub within_all : (hand run : SectionRun)
    → (run.count == 0 || (nat_le hand.first run.first && nat_le (next_after run) (next_after hand))) ≡ true
    → all_of (within hand) run ≡ true
unfolding within
within_all hand run h = all_each (within hand) run.count run.first (λ j few. grind (arith, nat_tests))

pub within_none : (hand run : SectionRun) → (run.count == 0) ≡ false → nat_le hand.first run.first ≡ false
    → all_of (within hand) run ≡ false
unfolding within
within_none hand run some low =
    all_fails (within hand) run.count run.first 0 (grind (arith, nat_tests)) (grind (arith, nat_tests))

pub within_past : (hand run : SectionRun) → (run.count == 0) ≡ false → nat_le (next_after run) (next_after hand) ≡ false
    → all_of (within hand) run ≡ false
unfolding within
within_past hand run some high =
    all_fails (within hand) run.count run.first (run.count - 1) (grind (arith, nat_tests)) (grind (arith, nat_tests))

-- ## Released sections

-- a page of another home is shut
pub open_own : (book : Pages) (s : ℕ) → is_open (entry_at book s) ≡ true → is_own book s ≡ true
unfolding entry_at is_own
open_own book s h = by_page (page_of book s) h
  where
    by_page : (o : Option Page) → is_open (option_map_or (λ page. entry_of page.entry) o Shut) ≡ true → is_some o ≡ true
    by_page (Some page) h = refl
    by_page None h = h

pub all_within : (hand run : SectionRun) → (run.count == 0) ≡ false → nat_le hand.first run.first ≡ true
    → nat_le (next_after run) (next_after hand) ≡ all_of (within hand) run
all_within hand run some low = by_end (nat_le (next_after run) (next_after hand)) refl
  where
    by_end : (b : Bool) → nat_le (next_after run) (next_after hand) ≡ b
        → nat_le (next_after run) (next_after hand) ≡ all_of (within hand) run
    by_end true e = e ∙ sym (within_all hand run (rw (some, low, e) refl))
    by_end false e = e ∙ sym (within_past hand run some e)

-- in a book of the centre's home, a section is free if it is open
pub free_open : (line : Line) (c : ℕ) (k : Centre) (book : Pages) (s : ℕ) → ((e : ℕ) → k.book e ≡ entry_at book e)
    → is_own book s ≡ is_home line c s → is_open (entry_at book s) ≡ is_free line c k s
free_open line c k book s pages home = by_open (is_open (entry_at book s)) refl
  where
    no_and : (b : Bool) → false ≡ (b && false)
    no_and true = refl
    no_and false = refl

    by_open : (b : Bool) → is_open (entry_at book s) ≡ b → is_open (entry_at book s) ≡ is_free line c k s
    by_open true e = e ∙ rw (sym home ∙ open_own book s e, pages s, e) refl
    by_open false e = e ∙ rw (pages s, e) (no_and (is_home line c s))

-- a number past the last section is of no home
pub past_home : (line : Line) (c s : ℕ) → length line.sections ≤ s → is_home line c s ≡ false
past_home line c s past = rw (slice_get_past line.sections s past) refl

pub not_free_past : (line : Line) (c : ℕ) (k : Centre) (s : ℕ) → length line.sections ≤ s → false ≡ is_free line c k s
not_free_past line c k s past = rw (past_home line c s past) refl

-- ## The sections that may follow a hand

same_longest : (f g : ℕ → Bool) (first most : ℕ) → ((s : ℕ) → f s ≡ g s) → longest f first most ≡ longest g first most
same_longest f g first most same = ap (λ (h : ℕ → Bool). longest h first most) (λ i s. same s i)

pub follows_same : (line : Line) (c : ℕ) (k : Centre) (book : Pages) (m : Mission) (first most : ℕ)
    → ((e : ℕ) → k.book e ≡ entry_at book e) → ((s : ℕ) → is_own book s ≡ is_home line c s)
    → longest (grants.may_follow line book m.pool m.place) first most ≡ longest (may_follow line c k m) first most
follows_same line c k book m first most pages home =
    same_longest (grants.may_follow line book m.pool m.place) (may_follow line c k m) first most (λ s.
    ap (λ (b : Bool). (is_on line m.place.track s && (b || within m.pool s)) && has_room line m.place (end line s))
    (free_open line c k book s pages (home s)))

-- ## Rights

pub is_registered : (line : Line) (c t : ℕ) (r : Option ℕ) → r ≡ registrar line t → option_eq nat_eq r (Some c) ≡ true
    → is_registrar_of line c t ≡ true
is_registered line c t (Some d) is same = rw (sym is) (let e : (d == c) ≡ true = same in e)
is_registered line c t None is same = cc

pub not_registered : (line : Line) (c t : ℕ) (r : Option ℕ) → r ≡ registrar line t → option_eq nat_eq r (Some c) ≡ false
    → is_registrar_of line c t ≡ false
not_registered line c t (Some d) is same = rw (sym is) (let e : (d == c) ≡ false = same in e)
not_registered line c t None is same = rw (sym is) refl
