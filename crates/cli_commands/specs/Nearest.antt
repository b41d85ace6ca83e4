-- The known name that is most like a misspelt one.
use Rattle.std.specs.Char.{to_ascii_lowercase}
use Rattle.std.specs.Prelude.{[], ◌/◌, ◌∷◌, ◌≡◌, ◌≤◌, ◌⊎◌, chars, length, List, map, None, Option, Some, ℕ}
use Rattle.strsim.specs.Edits.{osa_table}

-- the letters to change, leave out, add or swap with their neighbours so that the one text becomes the other
abbrev pub changes : List ℕ → List ℕ → ℕ
changes a b = (osa_table (chars a) (chars b)).last_row (length (chars b))

-- Two names differ in upper and lower case only, or in at most a third of the letters of the known one. A name of more
-- than 64 bytes is not compared by its letters.
abbrev pub IsLike : List ℕ → List ℕ → Type 0
IsLike word name =
    (map to_ascii_lowercase word ≡ map to_ascii_lowercase name)
    ⊎ ((length word ≤ 64) × (length name ≤ 64) × (changes word name ≤ length name / 3))

-- the first of the known names that is like the word
abbrev pub IsNearest : List ℕ → List (List ℕ) → Option (List ℕ) → Type 0
IsNearest word [] found = found ≡ None
IsNearest word (name ∷ names) found =
    (IsLike word name × (found ≡ Some name)) ⊎ (¬ IsLike word name × IsNearest word names found)
