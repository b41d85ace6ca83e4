-- The plain data of an optional pointer to packets.
use Rattle.std.specs.Prelude.{List, []}
use Rattle.std.specs.Option.{option_map, unwrap_or}
use Rattle.rbc_packets.specs.Packet.{Packet}
use Rattle.rbc_packets.specs.declared.packets.Packets.TheInside.{Inside}

abbrev pub packets_of : Inside → List Packet
packets_of p = unwrap_or (option_map (λ packets. packets.value.items) p.some) []
