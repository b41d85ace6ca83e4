-- The lines of other protocols at the control endpoint.
use Rattle.std.specs.Char.{is_ascii_control}
use Rattle.std.specs.List.{ends_with, list_any}
use Rattle.std.specs.Prelude.{[], ◌&&◌, ◌-◌, ◌==◌, ◌||◌, ◌∷◌, Bool, codes, if◌then◌else◌, length, List, nat_eq, not}
use Rattle.std.specs.Prelude.{take, ℕ}

-- a control character other than a tab
abbrev pub is_control : ℕ → Bool
is_control byte = is_ascii_control byte && not (byte == 9)

-- the line without a carriage return at its end
abbrev pub without_return : List ℕ → List ℕ
without_return row = if ends_with nat_eq row (13 ∷ []) then take (length row - 1) row else row

-- The line is the request line of HTTP/1, or has a control character other than a tab. A carriage return at its end
-- does not count.
abbrev pub is_of_another_protocol : List ℕ → Bool
is_of_another_protocol row =
    (ends_with nat_eq (without_return row) (codes " HTTP/1.0")
    || ends_with nat_eq (without_return row) (codes " HTTP/1.1"))
    || list_any is_control (without_return row)
