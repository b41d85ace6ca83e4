-- The cells of a table.
use Rattle.std.specs.Prelude.{None, Option, Some, ℕ}
use Rattle.text_page.specs.declared.sheet.Cell.{Cell}
use Rattle.text_page.specs.declared.sheet.Cell.TheVariants.{Nothing, Time}

-- the cell of a time; nothing if the time is not known
abbrev pub time_cell : Option ℕ → Cell
time_cell None = Nothing
time_cell (Some time) = Time time
