-- Trains that are apart, only by their true ends.
use Rattle.std.specs.List.{list_all}
use Rattle.std.specs.Prelude.{Bool, count_by, List, nat_le}
use Rattle.rbc_line.specs.declared.parts.Section.{Section}
use Rattle.train_unit.specs.declared.ends.Ends.{Ends}
use Rattle.train_unit.specs.Standing.{stands_on}

-- no two of the trains have a part on one of the sections
abbrev pub are_apart : List Section → List Ends → Bool
are_apart sections trains = list_all (λ section. nat_le (count_by (stands_on section) trains) 1) sections
