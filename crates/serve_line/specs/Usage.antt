-- The usage of a log, a clock or a link.
use Rattle.std.specs.Prelude.{◌*◌, Bool, if◌then◌else◌, nat_le, ℕ}

-- the usage has reached this percentage
abbrev pub has_reached : ℕ → ℕ → ℕ → Bool
has_reached percent used most = nat_le (most * percent) (used * 100)

-- the highest of 0, 50, 90 and 99 percent that the usage has reached
abbrev pub mark_of : ℕ → ℕ → ℕ
mark_of used most =
    if has_reached 99 used most then 99
    else if has_reached 90 used most then 90
    else if has_reached 50 used most then 50 else 0
