-- Sections of a run, by marks.
use Rattle.std.specs.Prelude.{ℕ, zero, suc, ◌+◌, ◌/◌, ◌%◌, ◌==◌, List, [], ◌∷◌, ◌++◌, if◌then◌else◌}

-- the marked sections of n, in rising order: the lowest digit of the marks is the last section's
unfoldable pub marked : ℕ → ℕ → ℕ → List ℕ
marked first zero marks = []
marked first (suc n) marks = marked first n (marks / 2) ++ (if marks % 2 == 1 then (first + n) ∷ [] else [])
