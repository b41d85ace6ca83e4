-- Sections that pass to another centre with a train, and arrive with one.
use Rattle.std.specs.Prelude.{◌≡◌, ℕ, Bool, ◌&&◌, if◌then◌else◌}
use Rattle.rbc_spec.specs.SectionRuns.{SectionRun, within}
use Rattle.rbc_spec.specs.Centre.{Entry}
use Rattle.rbc_book.specs.Book.{Pages, is_own, entry_at, wish_at}

-- the sections of the run whose entry is meant have this entry, and nothing else changed
pub record IsBooked (is_meant : Entry → Bool) (entry : Entry) (r : SectionRun) (old new : Pages) : Type 0 where
  pub homes : (s : ℕ) → is_own new s ≡ is_own old s
  pub entries : (s : ℕ) → entry_at new s ≡ (if within r s && is_meant (entry_at old s) then entry else entry_at old s)
  pub wish : (s : ℕ) → wish_at new s ≡ wish_at old s
