-- The sections that the interlocking releases in advance of a train.
use Rattle.std.specs.List.{list_any}
use Rattle.std.specs.Option.{option_map_or}
use Rattle.std.specs.Prelude.{◌&&◌, ◌+◌, ◌==◌, ◌||◌, Bool, false, if◌then◌else◌, List, None, not, Option}
use Rattle.std.specs.Prelude.{option_and_then, slice_get, Some, ℕ}
use Rattle.cli_drive.specs.declared.trains.train.Train.{Train}
use Rattle.rbc_line.specs.declared.parts.Section.{Section}
use Rattle.train_unit.specs.Standing.{stands_on}

-- a part of a train that no centre has accepted is on the section
abbrev pub is_under_hidden : Section → List Train → Bool
is_under_hidden section trains = list_any (λ train. not train.driver.is_accepted && stands_on section train.ends) trains

-- the same of the section of this number; false if there is none
abbrev pub has_hidden : List Section → List Train → ℕ → Bool
has_hidden sections trains s = option_map_or (λ section. is_under_hidden section trains) (slice_get sections s) false

-- The section after s on its track, unless a train that no centre has accepted is on it or on the next.
abbrev pub free_after : List Section → List Train → ℕ → Option ℕ
free_after sections trains s =
    option_and_then (λ section. if (section.start == 0 || has_hidden sections trains (s + 1))
    || has_hidden sections trains (s + 2) then None else Some (s + 1)) (slice_get sections (s + 1))
