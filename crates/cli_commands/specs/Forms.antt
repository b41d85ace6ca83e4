-- The forms of the events of a script, and the bounds of the arguments that are numbers.
use Rattle.std.specs.Borrow.{Bor}
use Rattle.std.specs.Prelude.{[], ◌-◌, ◌^◌, ◌∷◌, codes, if◌then◌else◌, List, None, Option, Some, ℕ}
use Rattle.std.specs.Str.{bytes_eq}

-- the least and the greatest value of each argument that is a number
abbrev pub numbers : List (List ℕ × (ℕ × ℕ))
numbers =
    (codes "PORT", (1, 65535)) ∷ (codes "page", (1, 65535)) ∷ (codes "port", (1, 65528))
    ∷ (codes "SEED", (0, 2 ^ 64 - 1)) ∷ (codes "rate", (1, 2 ^ 32 - 1)) ∷ (codes "burst", (1, 2 ^ 32 - 1))
    ∷ (codes "timeout", (1, 2 ^ 32 - 1)) ∷ (codes "from", (1, 2 ^ 32 - 1)) ∷ (codes "to", (1, 2 ^ 32 - 1))
    ∷ (codes "train", (0, 16777215)) ∷ (codes "trains", (1, 64)) ∷ (codes "loss", (0, 100))
    ∷ (codes "late", (0, 100)) ∷ (codes "seed", (0, 2 ^ 64 - 1)) ∷ (codes "events", (1, 1000000))
    ∷ (codes "seconds", (1, 1000000)) ∷ []

-- the entries of a table of the code, with their names as bytes
abbrev pub listed : List (Bor (List ℕ) × (ℕ × ℕ)) → List (List ℕ × (ℕ × ℕ))
listed [] = []
listed (row ∷ rows) = (row.0.now, row.1) ∷ listed rows

-- the bounds of the argument of a name by a table, if the table has it
abbrev pub bounds_in : List (List ℕ × (ℕ × ℕ)) → List ℕ → Option (ℕ × ℕ)
bounds_in [] name = None
bounds_in (row ∷ rows) name = if bytes_eq row.0 name then Some row.1 else bounds_in rows name

-- the form of an event of this name; none of any other name
abbrev pub form_of : List ℕ → Option (List ℕ)
form_of verb =
    if bytes_eq verb (codes "show") then Some (codes "show")
    else if bytes_eq verb (codes "train") then Some (codes "train CENTRE BYTES")
    else if bytes_eq verb (codes "set") then Some (codes "set CENTRE SECTION")
    else if bytes_eq verb (codes "unset") then Some (codes "unset CENTRE SECTION")
    else if bytes_eq verb (codes "deliver") then Some (codes "deliver CENTRE CENTRE FRAME")
    else None
