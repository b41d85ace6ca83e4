-- Reading bits from the front as a function, for any fault that too few bits are answered with.
use Rattle.std.specs.Prelude.{ℕ, Bool, List, length, take, drop, Result, Ok, Err, nat_lt, if◌then◌else◌}
use Rattle.rbc_bits.specs.Bits.{value_of}

-- the first n bits, and the bits after them
unfoldable pub part_at : {F : Type 0} → F → ℕ → List Bool → Result (List Bool × List Bool) F
part_at short n bits = if nat_lt (length bits) n then Err short else Ok (take n bits, drop n bits)

-- the value of the field of the first n bits, and the bits after it
unfoldable pub field_at : {F : Type 0} → F → ℕ → List Bool → Result (ℕ × List Bool) F
field_at short n bits = if nat_lt (length bits) n then Err short else Ok (value_of (take n bits), drop n bits)
