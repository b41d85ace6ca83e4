-- The bits of a radio message (SUBSET-026 chapter 7): fields follow each other bit by bit, highest bit first.
use Rattle.std.specs.List.{flat_map}
use Rattle.std.specs.Prelude.{[], ◌%◌, ◌++◌, ◌+◌, ◌-◌, ◌/◌, ◌==◌, ◌^◌, ◌∷◌, Bool, false, if◌then◌else◌, length, List}
use Rattle.std.specs.Prelude.{replicate, suc, zero, ℕ}

-- the lowest binary digit of a number is 1
abbrev pub is_odd : ℕ → Bool
is_odd n = n % 2 == 1

-- a field: the n binary digits of a value, highest first
unfoldable pub field : ℕ → ℕ → List Bool
field zero v = []
field (suc n) v = is_odd (v / 2 ^ n) ∷ field n v

-- the bits of bytes, each highest first
unfoldable pub bits_of : List ℕ → List Bool
bits_of bytes = flat_map (field 8) bytes

-- the value that binary digits spell, highest first
unfoldable pub value_of : List Bool → ℕ
value_of [] = 0
value_of (b ∷ bits) = (if b then 2 ^ length bits else 0) + value_of bits

-- how many bits fill n bits up to whole bytes: 0 to 7
abbrev pub filling : ℕ → ℕ
filling n = (8 - n % 8) % 8

-- bits, and zero bits after them to whole bytes
unfoldable pub filled : List Bool → List Bool
filled bits = bits ++ replicate (filling (length bits)) false
