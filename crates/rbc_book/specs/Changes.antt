-- The changes of a section, as the rules have them.
use Rattle.std.specs.Prelude.{◌≡◌, ◌≤◌, Bool, false, if◌then◌else◌, not, Some, true, ℕ}
use Rattle.rbc_book.specs.Book.{entry_at, is_own, Pages, wish_at}
use Rattle.rbc_book.specs.declared.change.Change.{Change}
use Rattle.rbc_book.specs.declared.change.Change.TheVariants.{GiveBack, Lend, Reclaim, Set, Take, Unset}
use Rattle.rbc_book.specs.declared.page.Page.{Page}
use Rattle.rbc_book.specs.Entries.{entry_of}
use Rattle.rbc_book.specs.Sheet.{page_on, Sheet}
use Rattle.rbc_spec.specs.Centre.{Entry, is_open, is_out_for, is_taken_for, is_unused, Open, Out, Shut, Taken}
use Rattle.rbc_spec.specs.SectionRuns.{SectionRun, within}

-- the page of a section
pub record IsPageOf (pages : Pages) (s : ℕ) (page : Page) : Type 0 where
  pub entry : entry_of page.entry ≡ entry_at pages s
  pub wish : page.is_wished ≡ wish_at pages s

-- the entry after the change, by the entry and the wish before it
abbrev pub entry_after : Change → Entry → Bool → Entry
entry_after Set entry wish = if is_unused entry then Open else entry
entry_after Unset entry wish = if is_unused entry then Shut else entry
entry_after (Take t) entry wish = if is_open entry then Taken t else entry
entry_after (GiveBack t) entry wish = if is_taken_for t entry then (if wish then Shut else Open) else entry
entry_after (Lend t) entry wish = if is_taken_for t entry then Out t else entry
entry_after (Reclaim t) entry wish = if is_out_for t entry then Taken t else entry

-- whether it is wished back from then on
abbrev pub wish_after : Change → Entry → Bool → Bool
wish_after Set entry wish = false
wish_after Unset entry wish = not (is_unused entry)
wish_after (Take t) entry wish = wish
wish_after (GiveBack t) entry wish = if is_taken_for t entry then false else wish
wish_after (Lend t) entry wish = wish
wish_after (Reclaim t) entry wish = wish

-- the sections of the run are in use for a train, and nothing else changed
pub record IsTaken (r : SectionRun) (t : ℕ) (old new : Pages) : Type 0 where
  pub homes : (k : ℕ) → is_own new k ≡ is_own old k
  pub entry : (k : ℕ) → entry_at new k ≡ (if within r k then Taken t else entry_at old k)
  pub wish : (k : ℕ) → wish_at new k ≡ wish_at old k

-- a page after a change
pub record IsAfter (change : Change) (old new : Page) : Type 0 where
  pub entry : entry_of new.entry ≡ entry_after change (entry_of old.entry) old.is_wished
  pub wish : new.is_wished ≡ wish_after change (entry_of old.entry) old.is_wished

-- `size` sections from s on, at least one and at most `most`, had this page, which is changed; nothing else is
pub record IsPartChanged (s most : ℕ) (change : Change) (page : Page) (size : ℕ) (old new : Sheet) : Type 0 where
  pub some : 1 ≤ size
  pub fits : size ≤ most
  pub had : (k : ℕ) → within (record { first = s; count = size }) k ≡ true → page_on old k ≡ Some page
  pub next : Page
  pub after : IsAfter change page next
  pub pages : (k : ℕ)
      → page_on new k ≡ (if within (record { first = s; count = size }) k then Some next else page_on old k)
