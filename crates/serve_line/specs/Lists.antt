-- Lists that grow.
use Rattle.std.specs.Prelude.{◌++◌, ◌≡◌, List}

-- the new list is the old one, and after it further elements
abbrev pub Continues : {X : Type 0} → List X → List X → Type 0
Continues {X} old new = (more : List X) × (new ≡ old ++ more)
