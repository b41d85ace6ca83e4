-- A packet that is kept without being read: its NID_PACKET, and the bits after L_PACKET.
use Rattle.std.specs.Prelude.{ℕ, ◌^◌, ◌<◌, Bool, List, length}

pub record Packet : Type 0 where
  pub nid_packet : ℕ
  pub bits : List Bool

-- NID_PACKET and L_PACKET have room for it: L_PACKET counts its header of 21 bits too
pub record PacketFits (p : Packet) : Type 0 where
  pub nid_packet : p.nid_packet < 2 ^ 8
  pub bits : length p.bits < 8171
