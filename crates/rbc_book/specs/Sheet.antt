-- The sheet of runs: the page and track of each section, by its number over the whole line.
use Rattle.std.specs.Option.{option_map_or}
use Rattle.std.specs.Prelude.{◌==◌, Bool, false, if◌then◌else◌, List, map, None, Option, option_and_then, option_map}
use Rattle.std.specs.Prelude.{slice_get, Some, ℕ}
use Rattle.rbc_book.specs.declared.page.Page.{Page}
use Rattle.rbc_book.specs.Entries.{entry_of}
use Rattle.rbc_spec.specs.Centre.{is_open, is_used_for}
use Rattle.rbc_spec.specs.Line.{Line, section}

-- a section that has a page, and its track
pub record Spot : Type 0 where
  pub page : Page
  pub track : ℕ

abbrev pub page_in : Option Spot → Option Page
page_in spot = option_map (λ s. s.page) spot

abbrev pub track_in : Option Spot → Option ℕ
track_in spot = option_map (λ s. s.track) spot

-- a section has a page, and is open
abbrev pub is_open_in : Option Spot → Bool
is_open_in spot = option_map_or (λ s. is_open (entry_of s.page.entry)) spot false

-- a section has a page, and is in use for a train
abbrev pub is_used_in : ℕ → Option Spot → Bool
is_used_in t spot = option_map_or (λ s. is_used_for t (entry_of s.page.entry)) spot false

-- for each section, by its number, its page and track, if it has one
abbrev pub Sheet : Type 0
Sheet = List (Option Spot)

abbrev pub spot_on : Sheet → ℕ → Option Spot
spot_on sheet s = option_and_then (λ spot. spot) (slice_get sheet s)

abbrev pub page_on : Sheet → ℕ → Option Page
page_on sheet s = page_in (spot_on sheet s)

abbrev pub track_on : Sheet → ℕ → Option ℕ
track_on sheet s = track_in (spot_on sheet s)

abbrev pub is_open_on : Sheet → ℕ → Bool
is_open_on sheet s = is_open_in (spot_on sheet s)

abbrev pub is_used_on : ℕ → Sheet → ℕ → Bool
is_used_on t sheet s = is_used_in t (spot_on sheet s)

-- the pages of a sheet
abbrev pub pages_on : Sheet → List (Option Page)
pages_on sheet = map page_in sheet

-- the track of a section of the line whose home is c
abbrev pub home_track : Line → ℕ → ℕ → Option ℕ
home_track line c s = option_and_then (λ p. if p.home == c then Some p.track else None) (section line s)
