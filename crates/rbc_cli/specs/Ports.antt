-- The ports of a line: those of its centres follow one another, and then that of the interlocking.
use Rattle.std.specs.Prelude.{◌+◌, ◌-◌, Err, if◌then◌else◌, nat_le, Ok, Result, ℕ}

-- the port of the first centre, after that of the page; else the greatest port that the page can have
abbrev pub first_after : ℕ → ℕ → Result ℕ ℕ
first_after page centres = if nat_le (page + (centres + 1)) 65535 then Ok (page + 1) else Err (65534 - centres)

-- the port of the first centre; else the greatest port that it can have
abbrev pub first_at : ℕ → ℕ → Result ℕ ℕ
first_at port centres = if nat_le (port + centres) 65535 then Ok port else Err (65535 - centres)
