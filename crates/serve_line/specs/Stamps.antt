-- The stamp of the last event of a log.
use Rattle.std.specs.Prelude.{◌-◌, length, List, option_map, slice_get, unwrap_or, ℕ}
use Rattle.rbc_log.specs.declared.entry.Entry.{Entry}

-- the stamp of the last entry; 0 without an entry
abbrev pub last_stamp : List Entry → ℕ
last_stamp entries = unwrap_or (option_map (λ e. e.outcome.stamp) (slice_get entries (length entries - 1))) 0
