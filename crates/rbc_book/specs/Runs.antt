-- Lists of runs: the pages of sections that they give, and their invariants.
use Rattle.std.specs.Prelude.{◌≡◌, ℕ, zero, suc, ◌+◌, ◌≤◌, List, [], ◌∷◌, map, Option, Some, None, true, if◌then◌else◌}
use Rattle.std.specs.List.{range_with_len}
use Rattle.rbc_spec.specs.SectionRuns.{SectionRun, within}
use Rattle.rbc_book.specs.Sheet.{Spot, Sheet, spot_on}
use Rattle.rbc_book.specs.declared.page.Page.{Page}
use Rattle.rbc_book.specs.declared.run.Run.{Run}

-- ## One run

-- its sections
abbrev pub sections_of : Run → SectionRun
sections_of r = record { first = r.first; count = r.count }

-- its page: the use of its sections, and whether they are wished back
abbrev pub run_page : Run → Page
run_page r = record { entry = r.entry; is_wished = r.is_wished }

-- the page and track of each of its sections
abbrev pub spot_of : Run → Spot
spot_of r = record { page = run_page r; track = r.track }

-- the next run begins at its end, on its track and with the same page
abbrev pub GoesOn : Run → Run → Type 0
GoesOn r next = (r.first + r.count ≡ next.first) × (r.track ≡ next.track) × (run_page r ≡ run_page next)

-- ## A list of runs

-- the page and track of a section: those of the run that has it
abbrev pub spot_at : List Run → ℕ → Option Spot
spot_at [] s = None
spot_at (r ∷ rs) s = if within (sections_of r) s then Some (spot_of r) else spot_at rs s

-- the sheet of all sections; no run has a number above this limit
unfoldable pub most : ℕ
most = 65535

abbrev pub sheet_of : List Run → Sheet
sheet_of runs = map (spot_at runs) (range_with_len 0 most)

-- there is a run at a place, and of it this holds
abbrev pub At : (Run → Type 0) → ℕ → List Run → Type 0
At P i [] = ⊥
At P zero (r ∷ rs) = P r
At P (suc i) (r ∷ rs) = At P i rs

-- no run is empty, and each begins after the one before
abbrev pub AreInOrder : ℕ → List Run → Type 0
AreInOrder from [] = Unit {0}
AreInOrder from (r ∷ rs) =
    (from ≤ r.first) × (1 ≤ r.count) × (r.first + r.count ≤ most) × AreInOrder (r.first + r.count) rs

-- the first run of the list continues run r
abbrev pub IsFollowed : Run → List Run → Type 0
IsFollowed r [] = ⊥
IsFollowed r (q ∷ qs) = GoesOn r q

-- the run after this position continues the one at it
abbrev pub GoesOnAt : ℕ → List Run → Type 0
GoesOnAt i [] = ⊥
GoesOnAt zero (r ∷ rs) = IsFollowed r rs
GoesOnAt (suc i) (r ∷ rs) = GoesOnAt i rs

-- no run continues the one before it
abbrev pub AreApart : List Run → Type 0
AreApart runs = (i : ℕ) → GoesOnAt i runs → ⊥

-- the number of sections in all runs
abbrev pub sections_in : List Run → ℕ
sections_in [] = 0
sections_in (r ∷ rs) = r.count + sections_in rs

-- the invariants of a list of runs: its order, that no two could be one, and room for as many runs as there are
-- sections
pub record IsKept (runs : List Run) (room : ℕ) : Type 0 where
  pub order : AreInOrder 0 runs
  pub apart : AreApart runs
  pub has_room : sections_in runs ≤ room

-- a run has the section, and the sheet has the page of the run for each of its sections
pub record IsRunOf (sheet : Sheet) (s : ℕ) (r : Run) : Type 0 where
  pub has : within (sections_of r) s ≡ true
  pub each : (k : ℕ) → within (sections_of r) k ≡ true → spot_on sheet k ≡ Some (spot_of r)
  pub bound : r.first + r.count ≤ 65535
