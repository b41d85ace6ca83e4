-- A part of a print, compared with its due lines.
use Rattle.std.specs.Prelude.{ℕ, if◌then◌else◌, List, [], ◌∷◌, Option, Some, None}
use Rattle.std.specs.Str.{bytes_eq}
use Rattle.text_replay.specs.declared.comparing.part.Part.{Part}
use Rattle.text_replay.specs.Comparing.Lines.{first_difference, left_after}

-- The first difference, if none was found before: the remaining lines begin with number n, and are these.
abbrev pub found_after : Option ℕ → List (List ℕ) → ℕ → List (List ℕ) → Option ℕ
found_after (Some earlier) due n rows = Some earlier
found_after None due n rows = first_difference n due rows

-- the first difference of a part, if these lines come next, and the first of them has number n
abbrev pub found : Part → ℕ → List (List ℕ) → Option ℕ
found part n rows = found_after part.differs part.due n rows

-- a part without lines
abbrev pub fresh : List (List ℕ) → Part
fresh due = record { due = due; differs = None }

-- the difference after a line of this number
abbrev pub differs_after : ℕ → List ℕ → Option ℕ → List (List ℕ) → Option ℕ
differs_after n row (Some earlier) due = Some earlier
differs_after n row None [] = Some n
differs_after n row None (next ∷ due) = if bytes_eq next row then None else Some n

-- the due lines after this line; nothing is taken after a difference
abbrev pub due_after : List ℕ → Option ℕ → List (List ℕ) → List (List ℕ)
due_after row (Some earlier) due = due
due_after row None due = left_after row due
