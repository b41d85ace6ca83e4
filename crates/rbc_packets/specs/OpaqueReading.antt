-- A packet that is kept without being read: how it is spelled, and the order in which it is tested (profile).
use Rattle.std.specs.Prelude.{ℕ, ◌+◌, Bool, List, [], ◌∷◌, ◌++◌, length, Result, Ok}
use Rattle.rbc_packets.specs.Layout.{joined}
use Rattle.rbc_packets.specs.Steps.{◌>>=◌}
use Rattle.rbc_packets.specs.Packet.{Packet}
use Rattle.rbc_packets.specs.Reading.{train_part_at}
use Rattle.rbc_packets.specs.declared.fault.PacketFault.{PacketFault}

-- the bits after NID_PACKET: L_PACKET, and the packet's own bits
unfoldable pub opaque_bits : Packet → List Bool
opaque_bits p = joined ((13, 21 + length p.bits) ∷ []) ++ p.bits

-- a packet of this NID_PACKET after it
unfoldable pub opaque_at : ℕ → List Bool → Result (Packet × List Bool) PacketFault
opaque_at nid_packet bits = do
  part ← train_part_at bits
  Ok (record { nid_packet = nid_packet; bits = part.0 }, part.1)
