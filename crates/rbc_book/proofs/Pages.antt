-- Laws of the pages of a book, and of sections in use for a train.
use Rattle.std.proofs.Common.{[], ◌<◌, ◌==◌, ◌∙◌, ◌∷◌, ◌≡◌, ap, arith, Bool, cond, false, get_or, IfSome, if◌then◌else◌}
use Rattle.std.proofs.Common.{inl, inr, is_some, length, List, map, None, Option, option_and_then, option_map, refl}
use Rattle.std.proofs.Common.{slice_get, Some, suc, sym, true, unwrap_or, zero, ℕ}
use Rattle.std.proofs.lemmas.Bool.{cases_Bool, false≢true}
use Rattle.std.proofs.lemmas.Bool.Decides.{eqb_tells}
use Rattle.std.proofs.lemmas.List.{get_or_default}
use Rattle.std.specs.Option.{option_map_or}
use Rattle.rbc_book.proofs.Rows.{at_read, order_at, sheet_says, spot_of_run}
use Rattle.rbc_book.specs.Book.{entry_at, is_own, page_of, Pages, wish_at}
use Rattle.rbc_book.specs.Changes.{entry_after, IsAfter, IsPageOf, wish_after}
use Rattle.rbc_book.specs.declared.change.Change.{Change}
use Rattle.rbc_book.specs.declared.page.Page.{Page}
use Rattle.rbc_book.specs.declared.run.Run.{Run}
use Rattle.rbc_book.specs.Entries.{entry_of}
use Rattle.rbc_book.specs.Runs.{AreInOrder, sections_of, sheet_of, spot_at}
use Rattle.rbc_book.specs.Sheet.{home_track, is_open_in, is_open_on, is_used_in, is_used_on, page_in, page_on, pages_on}
use Rattle.rbc_book.specs.Sheet.{Sheet, Spot, spot_on}
use Rattle.rbc_spec.proofs.Runs.{within_from}
use Rattle.rbc_spec.specs.Centre.{is_open, is_used_for, Shut}
use Rattle.rbc_spec.specs.Line.{is_home, Line, Section}
use Rattle.rbc_spec.specs.Maps.{put}
use Rattle.rbc_spec.specs.SectionRuns.{longest, within}

-- # Laws of the pages of a book.

-- ## Sections of another home

-- a section of another home is shut
pub foreign_is_shut : (pages : Pages) (s : ℕ) → is_own pages s ≡ false → entry_at pages s ≡ Shut
unfolding is_own entry_at
foreign_is_shut pages s = by_page (page_of pages s)
  where
    by_page : (p : Option Page) → is_some p ≡ false → option_map_or (λ (q : Page). entry_of q.entry) p Shut ≡ Shut
    by_page None h = refl
    by_page (Some p) h = absurd (false≢true (sym h))

-- the value read for a section is its page, and a shut page if it is of another home
pub record IsRead (pages : Pages) (s : ℕ) (page shut : Page) : Type 0 where
  pub entry : entry_of page.entry ≡ entry_at pages s
  pub wish : page.is_wished ≡ wish_at pages s
  pub foreign : is_own pages s ≡ false → page ≡ shut

pub reads : (pages : Pages) (s : ℕ) (page shut : Page) (own : Option Page) → entry_of shut.entry ≡ Shut
    → shut.is_wished ≡ false → own ≡ page_of pages s → page ≡ unwrap_or own shut → IsRead pages s page shut
unfolding is_own entry_at wish_at
reads pages s page shut None is_shut unwished at read = record {
  entry = ap (λ (q : Page). entry_of q.entry) read ∙ is_shut
      ∙ ap (λ o. option_map_or (λ (q : Page). entry_of q.entry) o Shut) at;
  wish = ap (λ (q : Page). q.is_wished) read ∙ unwished
      ∙ ap (λ o. option_map_or (λ (q : Page). q.is_wished) o false) at;
  foreign = λ foreign. read;
}
reads pages s page shut (Some p) is_shut unwished at read = record {
  entry = ap (λ (q : Page). entry_of q.entry) read ∙ ap (λ o. option_map_or (λ (q : Page). entry_of q.entry) o Shut) at;
  wish = ap (λ (q : Page). q.is_wished) read ∙ ap (λ o. option_map_or (λ (q : Page). q.is_wished) o false) at;
  foreign = λ foreign. absurd (false≢true (sym foreign ∙ sym (ap is_some at)));
}

-- ## A page is written

-- every value read from a page changes only for the section that is written
part-put : {X : Type 0} (part : Option Page → X) (old new : Pages) (s : ℕ) (page : Page)
    → ((k : ℕ) → page_of new k ≡ put (page_of old) s (Some page) k) → (k : ℕ)
    → part (page_of new k) ≡ put (λ j. part (page_of old j)) s (part (Some page)) k
part-put part old new s page written k = ap part (written k) ∙
    elim (eqb_tells k s) as (λ _. part (put (page_of old) s (Some page) k)
    ≡ put (λ j. part (page_of old j)) s (part (Some page)) k) [
      | inl e ↦ rw (e.0) refl
      | inr e ↦ rw (e.0) refl
    ]

-- the properties of the written pages
pub record IsWritten (old new : Pages) (s : ℕ) (page : Page) : Type 0 where
  pub homes : (k : ℕ) → is_own new k ≡ is_own old k
  pub entry : (k : ℕ) → entry_at new k ≡ put (entry_at old) s (entry_of page.entry) k
  pub wish : (k : ℕ) → wish_at new k ≡ put (wish_at old) s page.is_wished k

pub writes : (old new : Pages) (s : ℕ) (page : Page) → is_own old s ≡ true
    → ((k : ℕ) → page_of new k ≡ put (page_of old) s (Some page) k) → IsWritten old new s page
unfolding is_own entry_at wish_at
writes old new s page own written = record {
  homes = λ k. part-put is_some old new s page written k ∙
      elim (eqb_tells k s) as (λ _. put (λ j. is_some (page_of old j)) s true k ≡ is_some (page_of old k)) [
        | inl e ↦ rw (e.0, e.1) (sym own)
        | inr e ↦ rw (e.0) refl
      ];
  entry = part-put (λ p. option_map_or (λ (q : Page). entry_of q.entry) p Shut) old new s page written;
  wish = part-put (λ p. option_map_or (λ (q : Page). q.is_wished) p false) old new s page written;
}

-- ## The pages of a sheet

page-map : (spots : List (Option Spot)) (k : ℕ) → option_and_then (λ page. page) (slice_get (map page_in spots) k)
    ≡ page_in (option_and_then (λ spot. spot) (slice_get spots k))
page-map [] k = refl
page-map (x ∷ xs) zero = refl
page-map (x ∷ xs) (suc k) = page-map xs k

pub page_of_sheet : (sheet : Sheet) (k : ℕ) → page_of (pages_on sheet) k ≡ page_on sheet k
page_of_sheet sheet k = page-map sheet k

-- a change of a sheet is one of the book
pub sheet_writes : (old new : Sheet) (s : ℕ) (page : Page) → is_own (pages_on old) s ≡ true
    → ((k : ℕ) → page_on new k ≡ put (page_on old) s (Some page) k) → IsWritten (pages_on old) (pages_on new) s page
sheet_writes old new s page own written = writes (pages_on old) (pages_on new) s page own
    (λ k. page_of_sheet new k ∙ written k
    ∙ elim (eqb_tells k s) as (λ _. put (page_on old) s (Some page) k
    ≡ put (page_of (pages_on old)) s (Some page) k) [
      | inl e ↦ rw (e.0) refl
      | inr e ↦ rw (e.0) (sym (page_of_sheet old k))
    ])

-- ## A new book

home_page : (o : Option Section) (c : ℕ) (page : Page)
    → is_some (option_map (λ (t : ℕ). page) (option_and_then (λ p. if p.home == c then Some p.track else None) o))
    ≡ option_map_or (λ p. p.home == c) o false
home_page None c page = refl
home_page (Some p) c page = by_home (p.home == c)
  where
    by_home : (b : Bool) → is_some (option_map (λ (t : ℕ). page) (cond b (Some p.track) None)) ≡ b
    by_home true = refl
    by_home false = refl

module _ (line : Line) (c : ℕ) (page : Page) (sheet : Sheet)
    (pages : (k : ℕ) → page_on sheet k ≡ option_map (λ (t : ℕ). page) (home_track line c k)) where
  pub new_home : (k : ℕ) → is_own (pages_on sheet) k ≡ is_home line c k
  unfolding is_own
  new_home k = ap is_some (page_of_sheet sheet k ∙ pages k) ∙ home_page (slice_get line.sections k) c page

  pub new_entry : entry_of page.entry ≡ Shut → (k : ℕ) → entry_at (pages_on sheet) k ≡ Shut
  unfolding entry_at
  new_entry is_shut k = ap (λ o. option_map_or (λ (q : Page). entry_of q.entry) o Shut) (page_of_sheet sheet k
      ∙ pages k) ∙ by_home (home_track line c k)
    where
      by_home : (o : Option ℕ) → option_map_or (λ (q : Page). entry_of q.entry)
          (option_map (λ (t : ℕ). page) o) Shut ≡ Shut
      by_home None = refl
      by_home (Some t) = is_shut

  pub new_wish : page.is_wished ≡ false → (k : ℕ) → wish_at (pages_on sheet) k ≡ false
  unfolding wish_at
  new_wish unwished k = ap (λ o. option_map_or (λ (q : Page). q.is_wished) o false) (page_of_sheet sheet k ∙ pages k)
      ∙ by_home (home_track line c k)
    where
      by_home : (o : Option ℕ)
          → option_map_or (λ (q : Page). q.is_wished) (option_map (λ (t : ℕ). page) o) false ≡ false
      by_home None = refl
      by_home (Some t) = unwished

-- ## Open sections

open_on : (sheet : Sheet) (s : ℕ) → is_open_on sheet s ≡ is_open (entry_at (pages_on sheet) s)
unfolding entry_at
open_on sheet s = by_spot (spot_on sheet s) ∙ ap (λ o. is_open (option_map_or (λ (q : Page). entry_of q.entry) o Shut))
    (sym (page_of_sheet sheet s))
  where
    by_spot : (o : Option Spot)
        → is_open_in o ≡ is_open (option_map_or (λ (q : Page). entry_of q.entry) (page_in o) Shut)
    by_spot None = refl
    by_spot (Some spot) = refl

pub longest_open : (sheet : Sheet) (first most : ℕ) → longest (is_open_on sheet) first most
    ≡ longest (λ s. is_open (entry_at (pages_on sheet) s)) first most
longest_open sheet first most = ap (λ (test : ℕ → Bool). longest test first most) (λ i s. open_on sheet s i)

-- ## A page is changed

-- the properties of a book's pages after a change of one of its sections
pub record IsChanged (old new : Pages) (s : ℕ) (change : Change) (was : Option Page) : Type 0 where
  pub own : is_some was ≡ is_own old s
  pub page : IfSome was (λ page. IsPageOf old s page)
  pub homes : (k : ℕ) → is_own new k ≡ is_own old k
  pub entry : is_own old s ≡ true → (k : ℕ)
      → entry_at new k ≡ put (entry_at old) s (entry_after change (entry_at old s) (wish_at old s)) k
  pub wish : is_own old s ≡ true → (k : ℕ)
      → wish_at new k ≡ put (wish_at old) s (wish_after change (entry_at old s) (wish_at old s)) k
  pub shut : was ≡ None → entry_at old s ≡ Shut

pub of_page : (pages : Pages) (s : ℕ) (page : Page) → Some page ≡ page_of pages s → IsPageOf pages s page
unfolding entry_at wish_at
of_page pages s page is = record {
  entry = ap (λ o. option_map_or (λ (q : Page). entry_of q.entry) o Shut) is;
  wish = ap (λ o. option_map_or (λ (q : Page). q.is_wished) o false) is;
}

owns : (pages : Pages) (s : ℕ) (was : Option Page) → was ≡ page_of pages s → is_some was ≡ is_own pages s
unfolding is_own
owns pages s was is = ap is_some is

pub changes : (old new : Sheet) (s : ℕ) (change : Change) (was : Option Page) → was ≡ page_on old s
    → IfSome was (λ page. (next : Page) × IsAfter change page next
    × ((k : ℕ) → page_on new k ≡ put (page_on old) s (Some next) k))
    → (was ≡ None → new ≡ old) → IsChanged (pages_on old) (pages_on new) s change was
changes old new s change None is written same =
    let not_own = owns (pages_on old) s None (is ∙ sym (page_of_sheet old s)) in
    record {
      own = not_own;
      page = tt;
      homes = λ k. ap (λ sheet. is_own (pages_on sheet) k) (same refl);
      entry = λ own. absurd (false≢true (not_own ∙ own));
      wish = λ own. absurd (false≢true (not_own ∙ own));
      shut = λ _. foreign_is_shut (pages_on old) s (sym not_own);
    }
changes old new s change (Some page) is written same =
    let at = is ∙ sym (page_of_sheet old s) in
    let own = owns (pages_on old) s (Some page) at in
    let read = of_page (pages_on old) s page at in
    let next = written.0 in
    let done = sheet_writes old new s next (sym own) written.2 in
    record {
      own = own;
      page = read;
      homes = done.homes;
      entry = λ _ k. done.entry k ∙ ap (λ e. put (entry_at (pages_on old)) s e k) (written.1.entry
          ∙ ap (λ e. entry_after change e page.is_wished) read.entry
          ∙ ap (entry_after change (entry_at (pages_on old) s)) read.wish);
      wish = λ _ k. done.wish k ∙ ap (λ w. put (wish_at (pages_on old)) s w k) (written.1.wish
          ∙ ap (λ e. wish_after change e page.is_wished) read.entry
          ∙ ap (wish_after change (entry_at (pages_on old) s)) read.wish);
      shut = λ none. absurd (false≢true (sym (ap is_some none)));
    }

-- # Laws of sections that are in use for a train.

-- none of the first runs is in use for the train
abbrev pub AreUnused : ℕ → List Run → ℕ → Type 0
AreUnused t runs n = (j : ℕ) (d : Run) → j < n → j < length runs
    → is_used_for t (entry_of (get_or runs j d).entry) ≡ false

pub none_used : (t : ℕ) (runs : List Run) → AreUnused t runs (length runs) → (s : ℕ)
    → is_used_in t (spot_at runs s) ≡ false
none_used t [] unused s = refl
none_used t (r ∷ rs) unused s = elim (cases_Bool (within (sections_of r) s)) [
  | inl has ↦ rw has (unused 0 r (omega arith) (omega arith))
  | inr not ↦ rw not (none_used t rs (λ j d low lt. unused (suc j) d (omega arith) (omega arith)) s)
]

pub first_used : (t i : ℕ) (runs : List Run) (d : Run) → AreInOrder 0 runs → i < length runs
    → is_used_for t (entry_of (get_or runs i d).entry) ≡ true
    → is_used_in t (spot_at runs (get_or runs i d).first) ≡ true
first_used t i runs d order lt used =
    let r = get_or runs i d in
    let at = at_read runs i r lt (get_or_default runs i d r lt) in
    let stands = order_at 0 runs i r order at in
    ap (is_used_in t) (spot_of_run 0 runs i r.first r order at
    (within_from (sections_of r) r.first (omega arith) (omega (arith, stands.some)))) ∙ used

pub used_on_sheet : (t : ℕ) (runs : List Run) → AreInOrder 0 runs → (s : ℕ)
    → is_used_on t (sheet_of runs) s ≡ is_used_in t (spot_at runs s)
used_on_sheet t runs order s = ap (is_used_in t) (sheet_says runs order s)

pub used_on : (t : ℕ) (sheet : Sheet) (s : ℕ) → is_used_on t sheet s ≡ is_used_for t (entry_at (pages_on sheet) s)
unfolding entry_at
used_on t sheet s = by_spot (spot_on sheet s)
    ∙ ap (λ o. is_used_for t (option_map_or (λ (q : Page). entry_of q.entry) o Shut)) (sym (page_of_sheet sheet s))
  where
    by_spot : (o : Option Spot)
        → is_used_in t o ≡ is_used_for t (option_map_or (λ (q : Page). entry_of q.entry) (page_in o) Shut)
    by_spot None = refl
    by_spot (Some spot) = refl

-- a named section passes an equal test
pub some_as : (o : Option ℕ) (f g : ℕ → Bool) → ((s : ℕ) → f s ≡ g s) → IfSome o (λ s. f s ≡ true)
    → IfSome o (λ s. g s ≡ true)
some_as None f g same h = h
some_as (Some s) f g same h = sym (same s) ∙ h
