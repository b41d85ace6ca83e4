-- How packets and messages are laid out (SUBSET-026 chapters 7 and 8): their fields are consecutive, bit by
-- bit.
use Rattle.std.specs.Prelude.{ℕ, ◌+◌, Bool, List, [], ◌∷◌, ◌++◌}
use Rattle.rbc_bits.specs.Bits.{field}

-- a field: how many bits it has, and its value
abbrev pub Field : Type 0
Field = ℕ × ℕ

-- the bits of consecutive fields
unfoldable pub joined : List Field → List Bool
joined [] = []
joined (f ∷ fields) = field f.0 f.1 ++ joined fields

-- how many bits they have
abbrev pub widths : List Field → ℕ
widths [] = 0
widths (f ∷ fields) = f.0 + widths fields

-- The fields after NID_PACKET of a train's packet: L_PACKET, which counts the bits of the whole packet, and the
-- packet's own fields.
abbrev pub train_packet : List Field → List Field
train_packet fields = (13, 21 + widths fields) ∷ fields

-- the fields after NID_PACKET of a centre's packet, with Q_DIR before L_PACKET: 1, nominal (profile)
abbrev pub track_packet : List Field → List Field
track_packet fields = (2, 1) ∷ (13, 23 + widths fields) ∷ fields
