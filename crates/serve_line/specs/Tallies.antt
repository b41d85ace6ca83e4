-- The events of a print.
use Rattle.std.specs.Prelude.{◌&&◌, ◌+◌, ◌-◌, ◌==◌, ◌^◌, Bool, if◌then◌else◌, min, ℕ}

-- the number of events, and whether the next byte begins a line
abbrev pub tally_of : ℕ → Bool → ℕ × Bool
tally_of events is_new = (events, is_new)

-- the same after one byte more: a line that begins with `>` is an event
abbrev pub tallied : ℕ × Bool → ℕ → ℕ × Bool
tallied tally byte = (
  (if tally.1 && (byte == 62) then min (tally.0 + 1) (2 ^ 64 - 1) else tally.0),
  byte == 10,
)
