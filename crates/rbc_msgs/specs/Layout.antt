-- The bytes of all messages (SUBSET-026 chapters 7 and 8): zero bits fill up the last byte (profile).
use Rattle.std.specs.Prelude.{◌≡◌, ℕ, ◌<◌, Bool, false, List, ◌++◌, length, replicate, All}

-- L_MESSAGE is below this: a message has at most 1 023 bytes
abbrev pub length_limit : ℕ
length_limit = 1024

-- the text begins with these bits
abbrev pub Begins : List Bool → List Bool → Type 0
Begins text front = (rest : List Bool) × (text ≡ front ++ rest)

-- the filling bits of the last byte: fewer than 8 bits, all of them zero
abbrev pub IsFilling : List Bool → Type 0
IsFilling bits = (length bits < 8) × (bits ≡ replicate (length bits) false)

-- numbers that are bytes
abbrev pub IsBytes : List ℕ → Type 0
IsBytes bytes = All (λ b. b < 256) bytes
