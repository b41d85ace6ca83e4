-- The order in which the parts that packets have in common are tested (profile). Bits begin after NID_PACKET.
use Rattle.std.specs.Prelude.{ℕ, ◌-◌, ◌==◌, Bool, not, List, length, Result, Ok, nat_lt}
use Rattle.std.specs.Option.{ok_or}
use Rattle.rbc_bits.specs.Reading.{field_at, part_at}
use Rattle.rbc_vars.specs.Values.{q_scale_of, direction_of, q_length_of, m_level_of}
use Rattle.rbc_vars.specs.declared.scale.QScale.{QScale}
use Rattle.rbc_vars.specs.declared.direction.Direction.{Direction}
use Rattle.rbc_vars.specs.declared.length.QLength.{QLength}
use Rattle.rbc_vars.specs.declared.level.MLevel.{MLevel}
use Rattle.rbc_packets.specs.Steps.{◌>>=◌, refuse}
use Rattle.rbc_packets.specs.declared.fault.PacketFault.{PacketFault}
use Rattle.rbc_packets.specs.declared.fault.PacketFault.TheVariants.{Short, Length, Value}

-- ## Headers

-- the bits of a train's packet after its header, and those after the packet: L_PACKET has at least the header's 21
-- bits
unfoldable pub train_part_at : List Bool → Result (List Bool × List Bool) PacketFault
train_part_at bits = do
  l_packet ← field_at Short 13 bits
  _ ← refuse (nat_lt l_packet.0 21) Length
  part_at Short (l_packet.0 - 21) l_packet.1

-- The bits of a centre's packet after its header, and those after the packet. The header has 23 bits. The value of
-- Q_DIR is tested before the fields after the header.
unfoldable pub track_part_at : List Bool → Result (List Bool × List Bool) PacketFault
track_part_at bits = do
  q_dir ← field_at Short 2 bits
  l_packet ← field_at Short 13 q_dir.1
  _ ← refuse (nat_lt l_packet.0 23) Length
  part ← part_at Short (l_packet.0 - 23) l_packet.1
  _ ← refuse (not (q_dir.0 == 1)) Value
  Ok part

-- nothing may follow the last field of a packet
unfoldable pub none_left : List Bool → Result (Unit {0}) PacketFault
none_left bits = refuse (nat_lt 0 (length bits)) Length

-- ## Fields: one that is not wholly within L_PACKET is a wrong length

-- a field of n bits that is given one value: any other is refused
unfoldable pub fixed_at : ℕ → ℕ → List Bool → Result (Unit {0} × List Bool) PacketFault
fixed_at n value bits = do
  found ← field_at Length n bits
  _ ← refuse (not (found.0 == value)) Value
  Ok (tt, found.1)

unfoldable pub q_scale_at : List Bool → Result (QScale × List Bool) PacketFault
q_scale_at bits = do
  value ← field_at Length 2 bits
  q_scale ← ok_or (q_scale_of value.0) Value
  Ok (q_scale, value.1)

unfoldable pub direction_at : List Bool → Result (Direction × List Bool) PacketFault
direction_at bits = do
  value ← field_at Length 2 bits
  direction ← ok_or (direction_of value.0) Value
  Ok (direction, value.1)

unfoldable pub q_length_at : List Bool → Result (QLength × List Bool) PacketFault
q_length_at bits = do
  value ← field_at Length 2 bits
  q_length ← ok_or (q_length_of value.0) Value
  Ok (q_length, value.1)

unfoldable pub m_level_at : List Bool → Result (MLevel × List Bool) PacketFault
m_level_at bits = do
  value ← field_at Length 3 bits
  m_level ← ok_or (m_level_of value.0) Value
  Ok (m_level, value.1)
