-- The lines at the control endpoint.
use Rattle.std.specs.List.{after_first, before_first}
use Rattle.std.specs.Prelude.{◌++◌, ◌==◌, ◌≡◌, ◌≤◌, Bool, length, List, ℕ, ⊤}
use Rattle.serve_line.specs.declared.clients.rows.Came.{Came}
use Rattle.serve_line.specs.declared.clients.rows.Came.TheVariants.{End, Nothing, Row}

-- the byte ends a line
abbrev pub is_feed : ℕ → Bool
is_feed byte = byte == 10

-- A line is the bytes before the first line feed, and those after it are left. Without a line feed it is all bytes.
-- Without a line, the bytes of one read follow, at most 256. More than 4096 bytes without a line feed get no others.
abbrev pub Gives : List ℕ → Came → List ℕ → Type 0
Gives held (Row row) left = (row.items ≡ before_first is_feed held) × (left ≡ after_first is_feed held)
Gives held Nothing left = (length held ≤ 4096) × ((piece : List ℕ) × (length piece ≤ 256) × (left ≡ held ++ piece))
Gives held End left = ⊤
