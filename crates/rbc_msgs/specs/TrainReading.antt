-- The order in which the bytes of a train's message are tested (profile).
use Rattle.std.specs.Prelude.{ℕ, zero, suc, ◌==◌, Bool, List, [], ◌∷◌, length, Result, Ok, nat_lt, if◌then◌else◌}
use Rattle.std.specs.Option.{ok_or}
use Rattle.rbc_bits.specs.Reading.{field_at}
use Rattle.rbc_vars.specs.Values.{q_status_of}
use Rattle.rbc_packets.specs.Steps.{◌>>=◌, refuse}
use Rattle.rbc_packets.specs.Packet.{Packet}
use Rattle.rbc_packets.specs.PositionReading.{position_at}
use Rattle.rbc_packets.specs.OpaqueReading.{opaque_at}
use Rattle.rbc_packets.specs.declared.position.Position.{Position}
use Rattle.rbc_msgs.specs.TrainText.{TrainText}
use Rattle.rbc_msgs.specs.Numbers.{train_of_number, least_train_length}
use Rattle.rbc_msgs.specs.Reading.{start_at, whole_at, time_at, required_at, packet_read, end_at}
use Rattle.rbc_msgs.specs.declared.fault.MsgFault.{MsgFault}
use Rattle.rbc_msgs.specs.declared.fault.MsgFault.TheVariants as faults
use Rattle.rbc_msgs.specs.declared.number.TrainNumber.{TrainNumber}
use Rattle.rbc_msgs.specs.declared.number.TrainNumber.TheVariants as number
use Rattle.rbc_msgs.specs.declared.train_body.TrainBody.{TrainBody}
use Rattle.rbc_msgs.specs.declared.train_body.TrainBody.TheVariants as body

-- ## Required packets

unfoldable pub position_packet_at : List Bool → Result (Position × List Bool) MsgFault
position_packet_at bits = do
  found ← required_at 0 bits
  packet_read (position_at found.1)

unfoldable pub data_packet_at : List Bool → Result (Packet × List Bool) MsgFault
data_packet_at bits = do
  found ← required_at 11 bits
  packet_read (opaque_at 11 found.1)

-- ## The fields after the header, by NID_MESSAGE

unfoldable pub train_data_at : List Bool → Result (TrainBody × List Bool) MsgFault
train_data_at bits = do
  position ← position_packet_at bits
  packet ← data_packet_at position.1
  Ok (body.TrainData position.0 packet.0, packet.1)

unfoldable pub request_at : List Bool → Result (TrainBody × List Bool) MsgFault
request_at bits = do
  reason ← field_at faults.Short 5 bits
  position ← position_packet_at reason.1
  Ok (body.Request reason.0 position.0, position.1)

-- T_TRAIN of the request that is answered, and the position: any time is read here
unfoldable pub answered_at : List Bool → Result ((ℕ × Position) × List Bool) MsgFault
answered_at bits = do
  request ← field_at faults.Short 32 bits
  position ← position_packet_at request.1
  Ok ((request.0, position.0), position.1)

unfoldable pub start_of_mission_at : List Bool → Result (TrainBody × List Bool) MsgFault
start_of_mission_at bits = do
  value ← field_at faults.Short 2 bits
  status ← ok_or (q_status_of value.0) faults.Value
  position ← position_packet_at value.1
  Ok (body.StartOfMission status position.0, position.1)

abbrev pub train_body_at : TrainNumber → List Bool → Result (TrainBody × List Bool) MsgFault
train_body_at number.TrainData bits = train_data_at bits
train_body_at number.Request bits = request_at bits
train_body_at number.Report bits = position_packet_at bits >>= λ p. Ok (body.Report p.0, p.1)
train_body_at number.ShorteningGranted bits = answered_at bits >>= λ a. Ok (body.ShorteningGranted a.0.0 a.0.1, a.1)
train_body_at number.ShorteningRejected bits = answered_at bits >>= λ a. Ok (body.ShorteningRejected a.0.0 a.0.1, a.1)
train_body_at number.EndOfMission bits = position_packet_at bits >>= λ p. Ok (body.EndOfMission p.0, p.1)
train_body_at number.InitiationOfSession bits = Ok (body.InitiationOfSession, bits)
train_body_at number.TerminationOfSession bits = Ok (body.TerminationOfSession, bits)
train_body_at number.StartOfMission bits = start_of_mission_at bits
train_body_at number.SessionEstablished bits = Ok (body.SessionEstablished, bits)

-- ## Further packets

-- a further packet: another position report is refused as soon as its number is read
unfoldable pub further_packet_at : List Bool → Result (Packet × List Bool) MsgFault
further_packet_at bits = do
  nid_packet ← field_at faults.Short 8 bits
  _ ← refuse (nid_packet.0 == 0) faults.Value
  packet_read (opaque_at nid_packet.0 nid_packet.1)

-- at most n packets, as long as 8 bits or more are left
unfoldable pub further_at : ℕ → List Bool → Result (List Packet × List Bool) MsgFault
further_at zero bits = Ok ([], bits)
further_at (suc n) bits =
    if nat_lt (length bits) 8 then Ok ([], bits)
    else (further_packet_at bits >>= λ first. further_at n first.1 >>= λ others. Ok (first.0 ∷ others.0, others.1))

-- ## The whole message. There are not more packets than bits.

unfoldable pub read_train : List ℕ → Result TrainText MsgFault
read_train bytes = do
  start ← start_at bytes
  number ← train_of_number start.0
  bits ← whole_at (least_train_length number) start.1 bytes
  t_train ← time_at bits
  nid_engine ← field_at faults.Short 24 t_train.1
  body ← train_body_at number nid_engine.1
  further ← further_at (length body.1) body.1
  _ ← end_at faults.Packet further.1
  Ok (record { t_train = t_train.0; nid_engine = nid_engine.0; body = body.0; further = further.0 })
