-- How the message of a train is spelled (SUBSET-026 8.6).
use Rattle.std.specs.List.{AllByRecursion, flat_map}
use Rattle.std.specs.Prelude.{[], ◌++◌, ◌+◌, ◌/◌, ◌<◌, ◌^◌, ◌∷◌, ◌≡◌, ◌≢◌, Bool, length, List, ℕ}
use Rattle.rbc_bits.specs.Bits.{bits_of, filled}
use Rattle.rbc_msgs.specs.declared.train_body.TrainBody.{TrainBody}
use Rattle.rbc_msgs.specs.declared.train_body.TrainBody.TheVariants.{EndOfMission, InitiationOfSession, Report, Request}
use Rattle.rbc_msgs.specs.declared.train_body.TrainBody.TheVariants.{SessionEstablished, ShorteningGranted}
use Rattle.rbc_msgs.specs.declared.train_body.TrainBody.TheVariants.{ShorteningRejected, StartOfMission}
use Rattle.rbc_msgs.specs.declared.train_body.TrainBody.TheVariants.{TerminationOfSession, TrainData}
use Rattle.rbc_msgs.specs.Layout.{length_limit}
use Rattle.rbc_msgs.specs.TrainText.{TrainText}
use Rattle.rbc_packets.specs.declared.position.Position.{Position}
use Rattle.rbc_packets.specs.Layout.{Field, joined, train_packet}
use Rattle.rbc_packets.specs.OpaqueReading.{opaque_bits}
use Rattle.rbc_packets.specs.Packet.{Packet, PacketFits}
use Rattle.rbc_packets.specs.PositionSpelling.{position_fields, PositionFits}
use Rattle.rbc_spec.specs.Message.{unknown_time}
use Rattle.rbc_vars.specs.Values.{q_status_value}

-- NID_MESSAGE
abbrev pub train_number : TrainBody → ℕ
train_number (TrainData position packet) = 129
train_number (Request reason position) = 132
train_number (Report position) = 136
train_number (ShorteningGranted request position) = 137
train_number (ShorteningRejected request position) = 138
train_number (EndOfMission position) = 150
train_number InitiationOfSession = 155
train_number TerminationOfSession = 156
train_number (StartOfMission status position) = 157
train_number SessionEstablished = 159

-- the header: NID_MESSAGE, L_MESSAGE, T_TRAIN, NID_ENGINE
abbrev pub train_header : ℕ → TrainText → List Field
train_header l_message m = (8, train_number m.body) ∷ (10, l_message) ∷ (32, m.t_train) ∷ (24, m.nid_engine) ∷ []

-- packet 0
abbrev pub position_packet : Position → List Field
position_packet p = (8, 0) ∷ train_packet (position_fields p)

-- a packet that is kept without being read
abbrev pub packet_bits : Packet → List Bool
packet_bits p = joined ((8, p.nid_packet) ∷ []) ++ opaque_bits p

-- the fixed fields and the packets that have to follow the header: Q_MARQSTREASON; T_TRAIN of the request that is
-- answered; Q_STATUS
abbrev pub train_body_bits : TrainBody → List Bool
train_body_bits (TrainData position packet) = joined (position_packet position) ++ packet_bits packet
train_body_bits (Request reason position) = joined ((5, reason) ∷ position_packet position)
train_body_bits (Report position) = joined (position_packet position)
train_body_bits (ShorteningGranted request position) = joined ((32, request) ∷ position_packet position)
train_body_bits (ShorteningRejected request position) = joined ((32, request) ∷ position_packet position)
train_body_bits (EndOfMission position) = joined (position_packet position)
train_body_bits InitiationOfSession = []
train_body_bits TerminationOfSession = []
train_body_bits (StartOfMission status position) = joined ((2, q_status_value status) ∷ position_packet position)
train_body_bits SessionEstablished = []

-- all bits but the filling
unfoldable pub train_bits : ℕ → TrainText → List Bool
train_bits l_message m = joined (train_header l_message m) ++ (train_body_bits m.body ++ flat_map packet_bits m.further)

-- the number of its bytes, which does not depend on L_MESSAGE
unfoldable pub train_length : TrainText → ℕ
train_length m = (length (train_bits 0 m) + 7) / 8

-- each value has room in its field; the data of message 129 are packet 11
abbrev pub TrainBodyFits : TrainBody → Type 0
TrainBodyFits (TrainData position packet) = PositionFits position × (packet.nid_packet ≡ 11) × PacketFits packet
TrainBodyFits (Request reason position) = (reason < 2 ^ 5) × PositionFits position
TrainBodyFits (Report position) = PositionFits position
TrainBodyFits (ShorteningGranted request position) = (request < 2 ^ 32) × PositionFits position
TrainBodyFits (ShorteningRejected request position) = (request < 2 ^ 32) × PositionFits position
TrainBodyFits (EndOfMission position) = PositionFits position
TrainBodyFits (StartOfMission status position) = PositionFits position
TrainBodyFits other = Unit {0}

-- a further packet is not a position report
abbrev pub IsFurther : Packet → Type 0
IsFurther p = (p.nid_packet ≢ 0) × PacketFits p

-- T_TRAIN is known, and each value has room in its field
pub record TrainFits (m : TrainText) : Type 0 where
  pub t_train : m.t_train < unknown_time
  pub nid_engine : m.nid_engine < 2 ^ 24
  pub body : TrainBodyFits m.body
  pub further : AllByRecursion IsFurther m.further

-- the bytes spell the message: L_MESSAGE is their number
pub record SpellsTrain (bytes : List ℕ) (m : TrainText) : Type 0 where
  pub text : bits_of bytes ≡ filled (train_bits (length bytes) m)
  pub l_message : length bytes < length_limit
  pub fits : TrainFits m
