-- A print in parts, each compared with its due lines.
use Rattle.std.specs.Prelude.{ℕ, ◌+◌, List, [], ◌∷◌, ◌++◌, length, Option, None}
use Rattle.std.specs.Option.{option_or}
use Rattle.text_replay.specs.Comparing.Lines.{first_difference}

-- the due lines of a part, and its actual lines
pub record Block : Type 0 where
  pub due : List (List ℕ)
  pub rows : List (List ℕ)

-- the number of the first line that differs, if the first line of these parts has number n
abbrev pub differs_in : ℕ → List Block → Option ℕ
differs_in n [] = None
differs_in n (block ∷ blocks) =
    option_or (first_difference n block.due block.rows) (differs_in (n + length block.rows) blocks)

-- a part and the later ones; the lines that end a print are due in the last part
abbrev pub blocks_from : List (List ℕ) → List (List ℕ) → List (List ℕ) → List Block → List Block
blocks_from due rows ending [] = record { due = due ++ ending; rows = rows } ∷ []
blocks_from due rows ending (block ∷ blocks) = record { due = due; rows = rows } ∷ block ∷ blocks
