-- The bytes of a writer, after the name that separates it from other writers.
use Rattle.std.specs.Prelude.{◌∷◌, List, Option, option_map, ℕ}

abbrev pub named : ℕ → Option (List ℕ) → Option (List ℕ)
named name known = option_map (λ bytes. name ∷ bytes) known
