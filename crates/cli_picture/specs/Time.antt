-- The axis of time of a diagram. Times are in milliseconds.
use Rattle.std.specs.Int.{next_multiple_of}
use Rattle.std.specs.List.{find}
use Rattle.std.specs.Prelude.{◌*◌, ◌-◌, ◌/◌, Bool, count_by, length, List, min, nat_le, nat_lt, None, Option}
use Rattle.std.specs.Prelude.{option_map, Some, true, unwrap_or, ℕ}
use Rattle.cli_picture.specs.declared.time.TimePart.{TimePart}

-- whether an event of this time is before a moment; an event whose time is not known is
abbrev pub is_before : ℕ → Option ℕ → Bool
is_before moment None = true
is_before moment (Some time) = nat_lt time moment

-- the place of the first event of a part, if the events are in the order of their times
abbrev pub first_place : TimePart → ℕ
first_place p = count_by (is_before (unwrap_or p.since_ms 0)) p.times_ms.now

-- the place after the last event of the part
abbrev pub after_place : TimePart → ℕ
after_place p =
    unwrap_or (option_map (λ until. count_by (is_before until) p.times_ms.now) p.until_ms) (length p.times_ms.now)

-- the first of these steps that is not below the least one; if there is none, the fewest days that are not
abbrev pub step_from : List ℕ → ℕ → ℕ
step_from steps least = unwrap_or (find (nat_le least) steps) (next_multiple_of least 86400000)

-- the share of a part of the whole in a room, rounded down
abbrev pub share_at : ℕ → ℕ → ℕ → ℕ
share_at room part whole = room * part / whole

-- the place of a time on an axis from one time to another, which has this room. A time past an end is at that end.
abbrev pub place_at : ℕ → ℕ → ℕ → ℕ → ℕ
place_at room from to time = share_at room (min (time - from) (to - from)) (to - from)
