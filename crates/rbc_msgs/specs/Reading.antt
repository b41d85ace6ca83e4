-- The order in which bytes are tested, for the parts that all messages have: the first fault is answered (profile).
use Rattle.std.specs.Prelude.{◌≡◌, ◌≢◌, ℕ, ◌==◌, Bool, not, List, length, take, Result, Ok, Err, nat_lt, nat_le}
use Rattle.rbc_spec.specs.Message.{unknown_time}
use Rattle.rbc_bits.specs.Bits.{bits_of}
use Rattle.rbc_bits.specs.Reading.{field_at}
use Rattle.rbc_packets.specs.Steps.{◌>>=◌, refuse}
use Rattle.rbc_packets.specs.declared.fault.PacketFault.{PacketFault}
use Rattle.rbc_packets.specs.declared.fault.PacketFault.TheVariants as packet
use Rattle.rbc_msgs.specs.declared.fault.MsgFault.{MsgFault}
use Rattle.rbc_msgs.specs.declared.fault.MsgFault.TheVariants.{Short, Length, Padding, Packet, Missing, Value, Memory}

-- the program's answer, seen by `view`, is the result of reading, unless memory ran out
abbrev pub Gives : {A B : Type 0} → (A → B) → Result A MsgFault → Result B MsgFault → Type 0
Gives view (Ok x) read = read ≡ Ok (view x)
Gives view (Err e) read = e ≢ Memory → read ≡ Err e

-- NID_MESSAGE and L_MESSAGE, which three bytes hold
unfoldable pub start_at : List ℕ → Result (ℕ × ℕ) MsgFault
start_at bytes = do
  _ ← refuse (nat_lt (length bytes) 3) Short
  number ← field_at Short 8 (bits_of (take 3 bytes))
  l_message ← field_at Short 10 number.1
  Ok (number.0, l_message.0)

-- The bits after them. L_MESSAGE is at least the needed length, and it is the number of bytes.
unfoldable pub whole_at : ℕ → ℕ → List ℕ → Result (List Bool) MsgFault
whole_at least l_message bytes = do
  _ ← refuse (nat_lt l_message least) Length
  _ ← refuse (nat_lt (length bytes) l_message) Short
  _ ← refuse (nat_lt l_message (length bytes)) Length
  start ← field_at Short 18 (bits_of bytes)
  Ok start.1

-- T_TRAIN of a header: an unknown time is refused
unfoldable pub time_at : List Bool → Result (ℕ × List Bool) MsgFault
time_at bits = do
  t_train ← field_at Short 32 bits
  _ ← refuse (t_train.0 == unknown_time) Value
  Ok t_train

-- a field of n bits that is given one value: any other is refused
unfoldable pub fixed_at : ℕ → ℕ → List Bool → Result (Unit {0} × List Bool) MsgFault
fixed_at n value bits = do
  found ← field_at Short n bits
  _ ← refuse (not (found.0 == value)) Value
  Ok (tt, found.1)

-- NID_PACKET of a required packet
unfoldable pub required_at : ℕ → List Bool → Result (Unit {0} × List Bool) MsgFault
required_at nid_packet bits = do
  found ← field_at Missing 8 bits
  _ ← refuse (not (found.0 == nid_packet)) Missing
  Ok (tt, found.1)

-- the fault of a message with a packet that has this fault
abbrev pub packet_fault : PacketFault → MsgFault
packet_fault packet.Short = Packet
packet_fault packet.Length = Packet
packet_fault packet.Value = Value
packet_fault packet.Memory = Memory

abbrev pub packet_read : {A : Type 0} → Result A PacketFault → Result A MsgFault
packet_read (Ok x) = Ok x
packet_read (Err fault) = Err (packet_fault fault)

-- after the last field: fewer than 8 bits, else the fault more, and all of them zero
unfoldable pub end_at : MsgFault → List Bool → Result (Unit {0}) MsgFault
end_at more bits = do
  _ ← refuse (nat_le 8 (length bits)) more
  filling ← field_at Short (length bits) bits
  refuse (not (filling.0 == 0)) Padding
