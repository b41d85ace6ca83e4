-- The first faulty line of a script.
use Rattle.rbc_spec.specs.Line.{Line}
use Rattle.std.specs.Prelude.{[], ◌+◌, ◌∷◌, if◌then◌else◌, List, None, Option, Some, ℕ}
use Rattle.text_script.specs.Script.{is_faulty}

-- the number of the first line that is not skipped and has no form; the first line has this number
abbrev pub first_faulty : Line → ℕ → List (List ℕ) → Option ℕ
first_faulty line n [] = None
first_faulty line n (row ∷ rows) = if is_faulty line row then Some n else first_faulty line (n + 1) rows
