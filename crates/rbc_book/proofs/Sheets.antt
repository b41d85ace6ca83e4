-- Laws of a changed part of a run, and of the longest run of open sections.
use Rattle.std.proofs.Common.{◌+◌, ◌<◌, ◌==◌, ◌||◌, ◌∙◌, ◌≡◌, ◌≤◌, ap, arith, Bool, cond, false, if◌then◌else◌, inl}
use Rattle.std.proofs.Common.{inr, is_some, List, None, Option, refl, Some, sym, true, ℕ}
use Rattle.std.proofs.lemmas.Bool.{both_ways, cases_Bool, cases_lt}
use Rattle.std.proofs.lemmas.Bool.Decides.{eqb_tells, nat_tests}
use Rattle.std.specs.Option.{option_map_or}
use Rattle.rbc_book.proofs.Pages.{page_of_sheet}
use Rattle.rbc_book.proofs.Rows.{sheet_says, spot_of_run}
use Rattle.rbc_book.specs.Book.{entry_at, is_own, page_of, Pages, wish_at}
use Rattle.rbc_book.specs.Changes.{IsAfter, IsPartChanged, IsTaken}
use Rattle.rbc_book.specs.declared.change.Change.{Change}
use Rattle.rbc_book.specs.declared.change.Change.TheVariants.{Take}
use Rattle.rbc_book.specs.declared.page.Page.{Page}
use Rattle.rbc_book.specs.declared.run.Run.{Run}
use Rattle.rbc_book.specs.Edits.{Has, IsWritten, stretch}
use Rattle.rbc_book.specs.Entries.{entry_of}
use Rattle.rbc_book.specs.Runs.{AreInOrder, At, IsRunOf, run_page, sections_of, sheet_of}
use Rattle.rbc_book.specs.Sheet.{is_open_in, is_open_on, page_in, page_on, pages_on, Sheet, spot_on, track_in, track_on}
use Rattle.rbc_spec.proofs.Runs.{longest_is, longest_only, within_from, within_true}
use Rattle.rbc_spec.specs.Centre.{Entry, is_open, Shut, Taken}
use Rattle.rbc_spec.specs.Maps.{put}
use Rattle.rbc_spec.specs.SectionRuns.{longest, within}

-- # The longest run of open sections, run by run.

-- `count` sections from the first on are open
pub record HasOpened (sheet : Sheet) (first count : ℕ) : Type 0 where
  pub each : (s : ℕ) → first ≤ s → s < first + count → is_open_on sheet s ≡ true
  pub bound : first + count ≤ 65535

-- a run has the next one, and is open
pub opens_more : (sheet : Sheet) (first count more : ℕ) (r : Run) → IsRunOf sheet (first + count) r
    → is_open (entry_of r.entry) ≡ true → first + more ≡ r.first + r.count
    → HasOpened sheet first count → HasOpened sheet first more
opens_more sheet first count more r run opened end so_far = record {
  each = λ s low high. elim (cases_lt s (first + count)) [
    | inl before ↦ so_far.each s low before
    | inr from ↦
        let ends = within_true (sections_of r) (first + count) run.has in
        ap is_open_in
        (run.each s (within_from (sections_of r) s (omega (arith, ends.0, from)) (omega (arith, end, high))))
        ∙ opened
  ];
  bound = omega (arith, end, run.bound);
}

-- the next one is not open
pub stops : (sheet : Sheet) (first most count : ℕ) → count < most → is_open_on sheet (first + count) ≡ false
    → HasOpened sheet first count → count ≡ longest (is_open_on sheet) first most
stops sheet first most count less shut so_far =
    longest_only (is_open_on sheet) first most count (longest (is_open_on sheet) first most)
    (record {
      fits = omega arith;
      each = λ s in_run. let ends = within_true (record { first = first; count = count }) s in_run in
          so_far.each s ends.0 ends.1;
      ends = λ more. shut;
    })
    (longest_is (is_open_on sheet) first most)

-- the limit is reached
pub all_open : (sheet : Sheet) (first most count : ℕ) → most ≤ count → HasOpened sheet first count
    → most ≡ longest (is_open_on sheet) first most
all_open sheet first most count whole so_far =
    longest_only (is_open_on sheet) first most most (longest (is_open_on sheet) first most)
    (record {
      fits = omega arith;
      each = λ s in_run. let ends = within_true (record { first = first; count = most }) s in_run in
          so_far.each s ends.0 (omega (arith, ends.1, whole));
      ends = λ more. absurd (let no : ⊥ = omega (arith, more) in no);
    })
    (longest_is (is_open_on sheet) first most)

-- the next section has no run, or a run that is not open
pub none_open : (sheet : Sheet) (s : ℕ) → spot_on sheet s ≡ None → is_open_on sheet s ≡ false
none_open sheet s none = ap is_open_in none

pub run_open : (sheet : Sheet) (s : ℕ) (r : Run) (b : Bool) → IsRunOf sheet s r → is_open (entry_of r.entry) ≡ b
    → is_open_on sheet s ≡ b
run_open sheet s r b run is = ap is_open_in (run.each s run.has) ∙ is

pub after_next : (sheet : Sheet) (s : ℕ) (r : Run) → IsRunOf sheet s r → s < r.first + r.count
after_next sheet s r run = (within_true (sections_of r) s run.has).1

-- # Laws of the sheet of a list of runs.

pub written_pages : (s size : ℕ) (page : Page) (old new : List Run) → AreInOrder 0 old
    → IsWritten s size page old new → (k : ℕ)
    → page_on (sheet_of new) k ≡ (if within (stretch s size) k then Some page else page_on (sheet_of old) k)
written_pages s size page old new order written k = ap page_in (sheet_says new written.order k) ∙ written.pages k ∙
    elim (cases_Bool (within (stretch s size) k)) [
      | inl has ↦ rw has refl
      | inr not ↦ rw not (ap page_in (sym (sheet_says old order k)))
    ]

pub written_tracks : (s size : ℕ) (page : Page) (old new : List Run) → AreInOrder 0 old → IsWritten s size page old new
    → (k : ℕ) → track_on (sheet_of new) k ≡ track_on (sheet_of old) k
written_tracks s size page old new order written k = ap track_in (sheet_says new written.order k) ∙ written.tracks k
    ∙ ap track_in (sym (sheet_says old order k))

-- # Laws of a part of a run whose page is changed, and of sections that are taken part by part.

-- ## A part of a run is written

pub part_changed : (s most size i : ℕ) (change : Change) (next : Page) (runs new : List Run) (r : Run)
    → AreInOrder 0 runs → At (λ q. q ≡ r) i runs → Has s size r → 1 ≤ size → size ≤ most
    → IsAfter change (run_page r) next → IsWritten s size next runs new
    → IsPartChanged s most change (run_page r) size (sheet_of runs) (sheet_of new)
part_changed s most size i change next runs new r order at has some fits after written = record {
  some = some;
  fits = fits;
  had = λ k in_part. let ends = within_true (stretch s size) k in_part in
      ap page_in (sheet_says runs order k
      ∙ spot_of_run 0 runs i k r order at
      (within_from (sections_of r) k (omega (arith, has.0, ends.0)) (omega (arith, has.1, ends.1))));
  next = next;
  after = after;
  pages = written_pages s size next runs new order written;
}

-- ## A part of one section

within_alone : (s size k : ℕ) → size ≡ 1 → within (record { first = s; count = size }) k ≡ (k == s)
unfolding within
within_alone s size k one = elim (eqb_tells k s) as (λ _. within (record { first = s; count = size }) k ≡ (k == s)) [
  | inl e ↦ grind (arith, nat_tests)
  | inr e ↦ grind (arith, nat_tests)
]

module _ (s size : ℕ) (change : Change) (page : Page) (old new : Sheet)
    (part : IsPartChanged s 1 change page size old new) where
  alone : (k : ℕ) → within (record { first = s; count = size }) k ≡ (k == s)
  alone k = within_alone s size k (omega (arith, part.some, part.fits))

  pub page_before : Some page ≡ page_on old s
  page_before =
      sym (part.had s (within_from (record { first = s; count = size }) s (omega arith) (omega (arith, part.some))))

  pub page_put : (next : Page) × IsAfter change page next
      × ((k : ℕ) → page_on new k ≡ put (page_on old) s (Some next) k)
  page_put = (part.next, part.after, λ k. part.pages k ∙ ap (λ b. cond b (Some part.next) (page_on old k)) (alone k))

-- ## A part that is taken

-- every value read from a page changes only for the sections of the part
part-read : {X : Type 0} (read : Option Page → X) (s most size : ℕ) (change : Change) (page : Page) (old new : Sheet)
    (part : IsPartChanged s most change page size old new) (k : ℕ)
    → read (page_of (pages_on new) k)
    ≡ (if within (record { first = s; count = size }) k then read (Some part.next) else read
    (page_of (pages_on old) k))
part-read read s most size change page old new part k = ap read (page_of_sheet new k ∙ part.pages k)
    ∙ elim (cases_Bool (within (record { first = s; count = size }) k)) [
      | inl has ↦ rw has refl
      | inr not ↦ rw not (ap read (sym (page_of_sheet old k)))
    ]

-- a value that does not change is read as before
same-read : {X : Type 0} (b : Bool) (x y : X) → (b ≡ true → x ≡ y) → cond b x y ≡ y
same-read true x y same = same refl
same-read false x y same = refl

pub part_taken : (s most size t : ℕ) (page : Page) (old new : Sheet) → IsPartChanged s most (Take t) page size old new
    → is_open (entry_at (pages_on old) s) ≡ true
    → IsTaken (record { first = s; count = size }) t (pages_on old) (pages_on new)
unfolding is_own entry_at wish_at
part_taken s most size t page old new part is_open_before = record {
  homes = λ k. part-read is_some s most size (Take t) page old new part k
      ∙ same-read (within (record { first = s; count = size }) k) true (is_own (pages_on old) k)
      (λ has. sym (ap is_some (before k has)));
  entry = λ k. part-read entry_in s most size (Take t) page old new part k
      ∙ ap (λ e. cond (within (record { first = s; count = size }) k) e (entry_at (pages_on old) k)) taken;
  wish = λ k. part-read wish_in s most size (Take t) page old new part k
      ∙ same-read (within (record { first = s; count = size }) k) part.next.is_wished (wish_at (pages_on old) k)
      (λ has. part.after.wish ∙ sym (ap wish_in (before k has)));
}
  where
    entry_in : Option Page → Entry
    entry_in p = option_map_or (λ (q : Page). entry_of q.entry) p Shut

    wish_in : Option Page → Bool
    wish_in p = option_map_or (λ (q : Page). q.is_wished) p false

    before : (k : ℕ) → within (record { first = s; count = size }) k ≡ true → page_of (pages_on old) k ≡ Some page
    before k has = page_of_sheet old k ∙ part.had k has

    was_open : is_open (entry_of page.entry) ≡ true
    was_open =
        sym (ap (λ p. is_open (entry_in p))
        (before s (within_from (record { first = s; count = size }) s (omega arith) (omega (arith, part.some)))))
        ∙ is_open_before

    taken : entry_of part.next.entry ≡ Taken t
    taken = part.after.entry ∙ ap (λ b. cond b (Taken t) (entry_of page.entry)) was_open

-- a section that has no page is not open
pub none_taken : (old : Sheet) (s : ℕ) → page_on old s ≡ None → is_open (entry_at (pages_on old) s) ≡ true → ⊥
unfolding entry_at
none_taken old s none is_open_before =
    both_ways (is_open Shut) refl
    (sym (ap (λ (p : Option Page). is_open (option_map_or (λ (q : Page). entry_of q.entry) p Shut)) (page_of_sheet old s
    ∙ none)) ∙ is_open_before)

-- ## Part by part

nothing_within : (first k : ℕ) → within (record { first = first; count = 0 }) k ≡ false
unfolding within
nothing_within first k = grind (arith, nat_tests)

more_within : (first n more k : ℕ) → within (record { first = first; count = n + more }) k
    ≡ (within (record { first = first; count = n }) k || within (record { first = first + n; count = more }) k)
unfolding within
more_within first n more k = grind (arith, nat_tests)

pub taken_nothing : (first t : ℕ) (pages : Pages) → IsTaken (record { first = first; count = 0 }) t pages pages
taken_nothing first t pages =
    record { homes = λ k. refl; entry = λ k. rw (nothing_within first k) refl; wish = λ k. refl }

either : {X : Type 0} (a b : Bool) (x y : X) → cond b x (cond a x y) ≡ cond (a || b) x y
either true true x y = refl
either true false x y = refl
either false true x y = refl
either false false x y = refl

pub taken_more : (first n more t : ℕ) (a b c : Pages) → IsTaken (record { first = first; count = n }) t a b
    → IsTaken (record { first = first + n; count = more }) t b c
    → IsTaken (record { first = first; count = n + more }) t a c
taken_more first n more t a b c so_far next = record {
  homes = λ k. next.homes k ∙ so_far.homes k;
  entry = λ k. next.entry k
      ∙ ap (λ e. cond (within (record { first = first + n; count = more }) k) (Taken t) e) (so_far.entry k)
      ∙ either (within (record { first = first; count = n }) k) (within (record { first = first + n; count = more }) k)
      (Taken t) (entry_at a k)
      ∙ ap (λ x. cond x (Taken t) (entry_at a k)) (sym (more_within first n more k));
  wish = λ k. next.wish k ∙ so_far.wish k;
}

not_within : (first n : ℕ) → within (record { first = first; count = n }) (first + n) ≡ false
unfolding within
not_within first n = grind (arith, nat_tests)

-- the section after those that are taken is as it was
pub after_taken : (first n t : ℕ) (a b : Pages) → IsTaken (record { first = first; count = n }) t a b
    → entry_at b (first + n) ≡ entry_at a (first + n)
after_taken first n t a b so_far = so_far.entry (first + n)
    ∙ ap (λ x. cond x (Taken t) (entry_at a (first + n))) (not_within first n)
