-- Changes of a list of runs.
use Rattle.std.specs.List.{All}
use Rattle.std.specs.Prelude.{[], ◌+◌, ◌<◌, ◌==◌, ◌∷◌, ◌≡◌, ◌≢◌, ◌≤◌, ◌⊎◌, if◌then◌else◌, List, Some, suc, zero, ℕ}
use Rattle.rbc_book.specs.declared.page.Page.{Page}
use Rattle.rbc_book.specs.declared.run.Run.{Run}
use Rattle.rbc_book.specs.Runs.{AreApart, AreInOrder, GoesOnAt, run_page, sections_in, spot_at}
use Rattle.rbc_book.specs.Sheet.{page_in, Spot, track_in}
use Rattle.rbc_spec.specs.SectionRuns.{SectionRun, within}

-- a run and the next as one
abbrev pub joined : Run → Run → Run
joined r next =
    record { first = r.first; count = r.count + next.count; track = r.track; is_wished = r.is_wished; entry = r.entry }

abbrev pub joined_with : Run → List Run → List Run
joined_with r [] = r ∷ []
joined_with r (q ∷ qs) = joined r q ∷ qs

-- the runs at a place and after it as one
abbrev pub joined_at : ℕ → List Run → List Run
joined_at i [] = []
joined_at zero (r ∷ rs) = joined_with r rs
joined_at (suc i) (r ∷ rs) = r ∷ joined_at i rs

-- a run and the next become one if they can
abbrev pub IsJoined : ℕ → List Run → List Run → Type 0
IsJoined i old new = ((new ≡ old) × ¬ GoesOnAt i old) ⊎ ((new ≡ joined_at i old) × GoesOnAt i old)

-- the run at a place as another
abbrev pub changed_at : (Run → Run) → ℕ → List Run → List Run
changed_at f i [] = []
changed_at f zero (r ∷ rs) = f r ∷ rs
changed_at f (suc i) (r ∷ rs) = r ∷ changed_at f i rs

-- the run with other ends
abbrev pub resized : ℕ → ℕ → Run → Run
resized first count r =
    record { first = first; count = count; track = r.track; is_wished = r.is_wished; entry = r.entry }

-- the run with another page
abbrev pub with_page : Page → Run → Run
with_page page r =
    record { first = r.first; count = r.count; track = r.track; is_wished = page.is_wished; entry = page.entry }

-- the run of `size` sections from s on
abbrev pub stretch : ℕ → ℕ → SectionRun
stretch s size = record { first = s; count = size }

-- the run has the `size` sections from s on
abbrev pub Has : ℕ → ℕ → Run → Type 0
Has s size r = (r.first ≤ s) × (s + size ≤ r.first + r.count)

-- these sections are the whole run
abbrev pub IsWhole : ℕ → ℕ → Run → Type 0
IsWhole s size r = (r.first ≡ s) × (r.count ≡ size)

-- these sections are the first of a longer run, which has another page
abbrev pub IsFirst : ℕ → ℕ → Page → Run → Type 0
IsFirst s size page r = (r.first ≡ s) × (size < r.count) × (run_page r ≢ page)

-- these sections are the last of a longer run, which has another page
abbrev pub IsLast : ℕ → ℕ → Page → Run → Type 0
IsLast s size page r = (s + size ≡ r.first + r.count) × (size < r.count) × (run_page r ≢ page)

-- these sections are within a run and not at its ends, and the run has another page
abbrev pub IsInner : ℕ → ℕ → Page → Run → Type 0
IsInner s size page r = (r.first < s) × (s + size < r.first + r.count) × (run_page r ≢ page)

-- all runs end before a section
abbrev pub AreBefore : ℕ → List Run → Type 0
AreBefore s runs = All (λ r. r.first + r.count ≤ s) runs

-- a section is put after all runs
pub record IsAppended (s : ℕ) (spot : Spot) (old new : List Run) : Type 0 where
  pub spots : (k : ℕ) → spot_at new k ≡ (if k == s then Some spot else spot_at old k)
  pub order : AreInOrder 0 new
  pub apart : AreApart new
  pub before : AreBefore (s + 1) new
  pub count : sections_in new ≡ sections_in old + 1

-- the page of `size` sections from s on is written, and no other; the tracks stay
pub record IsWritten (s size : ℕ) (page : Page) (old new : List Run) : Type 0 where
  pub order : AreInOrder 0 new
  pub apart : AreApart new
  pub count : sections_in new ≡ sections_in old
  pub pages : (k : ℕ)
      → page_in (spot_at new k) ≡ (if within (stretch s size) k then Some page else page_in (spot_at old k))
  pub tracks : (k : ℕ) → track_in (spot_at new k) ≡ track_in (spot_at old k)
