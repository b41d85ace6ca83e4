-- Trains that are safe, only by their true ends.
use Rattle.std.specs.List.{list_all, list_any, zip}
use Rattle.std.specs.Prelude.{◌&&◌, ◌||◌, Bool, count_by, length, List, nat_le, not}
use Rattle.rbc_line.specs.declared.parts.Section.{Section}
use Rattle.train_unit.specs.declared.ends.Ends.{Ends}
use Rattle.train_unit.specs.Standing.{stands_on}

-- no two of the trains have a part on one of the sections
abbrev pub are_apart : List Section → List Ends → Bool
are_apart sections trains = list_all (λ section. nat_le (count_by (stands_on section) trains) 1) sections

-- each section has its mark, and none of the trains has a part on a section that is not released
abbrev pub are_on_released : List Section → List Bool → List Ends → Bool
are_on_released sections released trains =
    nat_le (length sections) (length released)
    && list_all (λ x. x.1 || not (list_any (stands_on x.0) trains)) (zip sections released)
