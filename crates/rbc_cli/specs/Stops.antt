-- Lines that stop the centres.
use Rattle.std.specs.Option.{option_map_or}
use Rattle.std.specs.Prelude.{◌-◌, Bool, false, length, List, slice_get, ℕ}
use Rattle.cli_drive.specs.Answers.{is_stop}

-- the last of the lines stops the centres
abbrev pub ends_with_stop : List (List ℕ) → Bool
ends_with_stop lines = option_map_or is_stop (slice_get lines (length lines - 1)) false
