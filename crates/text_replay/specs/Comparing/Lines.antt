-- Texts as lines, and the first line in which two texts differ.
use Rattle.std.specs.Prelude.{[], ◌+◌, ◌<◌, ◌==◌, ◌∷◌, ◌≡◌, Bool, drop, false, if◌then◌else◌, length, List, None}
use Rattle.std.specs.Prelude.{Option, Some, take, true, ℕ}
use Rattle.std.specs.Str.{bytes_eq}

-- one more byte at the front of the first line, if there is one
abbrev pub with_byte : ℕ → List (List ℕ) → List (List ℕ)
with_byte b [] = []
with_byte b (row ∷ rows) = (b ∷ row) ∷ rows

-- the lines of a text, each without its line feed; the bytes after the last line feed are not a line
abbrev pub lines_of : List ℕ → List (List ℕ)
lines_of [] = []
lines_of (b ∷ bs) = if b == 10 then [] ∷ lines_of bs else with_byte b (lines_of bs)

-- The number of the first line in which two texts differ, if their first lines have number n. If one text ends first,
-- it is the first line that only the other has.
abbrev pub first_difference : ℕ → List (List ℕ) → List (List ℕ) → Option ℕ
first_difference n [] [] = None
first_difference n [] (row ∷ rows) = Some n
first_difference n (due ∷ dues) [] = Some n
first_difference n (due ∷ dues) (row ∷ rows) = if bytes_eq due row then first_difference (n + 1) dues rows else Some n

-- whether no line is left
abbrev pub is_over : List (List ℕ) → Bool
is_over [] = true
is_over (due ∷ dues) = false

-- whether a line is the due one
abbrev pub is_next : List ℕ → List (List ℕ) → Bool
is_next row [] = false
is_next row (due ∷ dues) = bytes_eq due row

-- the due lines after a line that has arrived
abbrev pub left_after : List ℕ → List (List ℕ) → List (List ℕ)
left_after row [] = []
left_after row (due ∷ dues) = if bytes_eq due row then dues else due ∷ dues

-- the end of the first line of a text, if the text has a line
abbrev pub Ends : List ℕ → Option ℕ → Type 0
Ends text None = lines_of text ≡ []
Ends text (Some end) = (end < length text) × (lines_of text ≡ take end text ∷ lines_of (drop (end + 1) text))
