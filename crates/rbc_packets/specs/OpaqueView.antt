-- The plain data of an opaque packet.
use Rattle.std.specs.Prelude.{◌*◌, ◌^◌, ◌<◌, ◌≤◌, length, take}
use Rattle.rbc_bits.specs.Bits.{bits_of}
use Rattle.rbc_packets.specs.Packet.{Packet}
use Rattle.rbc_packets.specs.declared.opaque.Opaque.TheInside.{Inside}

-- the first bits of its bytes
abbrev pub packet_of : Inside → Packet
packet_of p =
    record { nid_packet = p.kept.value.nid_packet; bits = take p.kept.value.count (bits_of p.kept.value.bytes.items) }

-- not more bits than there are, nor than L_PACKET can name
abbrev pub HasPacketRanges : Inside → Type 0
HasPacketRanges p =
    (p.kept.value.count ≤ 8 * length p.kept.value.bytes.items) × (p.kept.value.count < 8171)
    × (length p.kept.value.bytes.items ≤ 2 ^ 28)
