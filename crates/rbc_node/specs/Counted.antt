-- How often each place was named, counted up to two.
use Rattle.std.specs.Prelude.{ℕ, ◌+◌, min, List, [], ◌∷◌, slice_index, slice_set}

-- one more at this place
abbrev pub counted_once : List ℕ → ℕ → List ℕ
counted_once counts p = slice_set counts p (min 2 (slice_index counts p + 1))

abbrev pub counted : List ℕ → List ℕ → List ℕ
counted counts [] = counts
counted counts (p ∷ places) = counted (counted_once counts p) places
