-- The first message, or the first line, of the bytes of a connection.
use Rattle.std.specs.List.{position}
use Rattle.std.specs.Prelude.{[], ◌*◌, ◌+◌, ◌/◌, ◌<◌, ◌==◌, ◌∷◌, ◌≡◌, drop, if◌then◌else◌, length, List, nat_lt, None}
use Rattle.std.specs.Prelude.{Option, option_map, Some, take, ℕ}
use Rattle.cli_drive.specs.declared.trains.inbox.Came.{Came}
use Rattle.cli_drive.specs.declared.trains.inbox.Came.TheVariants.{Garbage, Message, Nothing}

-- L_MESSAGE of the first message: the ten bits after NID_MESSAGE; none if they are not there
abbrev pub first_length : List ℕ → Option ℕ
first_length (number ∷ second ∷ third ∷ rest) = Some (second * 4 + third / 64)
first_length bytes = None

-- A message is the first L_MESSAGE bytes, and the others are left. Otherwise all bytes are left: the message is not
-- whole, or L_MESSAGE is too small for its own head.
abbrev pub IsCut : List ℕ → Came → List ℕ → Type 0
IsCut bytes (Message message) left =
    option_map {U = List ℕ × List ℕ} (λ n. (take n bytes, drop n bytes)) (first_length bytes)
    ≡ Some (message.items, left)
IsCut bytes Nothing left = (left ≡ bytes) × ((n : ℕ) → first_length bytes ≡ Some n → length bytes < n)
IsCut bytes Garbage left = (left ≡ bytes) × ((n : ℕ) → first_length bytes ≡ Some n → n < 3)

-- the place of the first line feed
abbrev pub row_end : List ℕ → Option ℕ
row_end bytes = position (λ byte. byte == 10) bytes

-- A line is the bytes before the first line feed, and those after it are left. Without one all bytes are left, but more
-- than 65 536 are dropped.
abbrev pub IsRowCut : List ℕ → Option (List ℕ) → List ℕ → Type 0
IsRowCut bytes (Some row) left =
    (end : ℕ) × (row_end bytes ≡ Some end) × (row ≡ take end bytes) × (left ≡ drop (end + 1) bytes)
IsRowCut bytes None left =
    (row_end bytes ≡ None) × (left ≡ (if nat_lt 65536 (length bytes) then [] else bytes))
