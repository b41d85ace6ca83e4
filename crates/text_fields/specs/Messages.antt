-- The shown fields of a message that a decoder reads: the codec's widths and values, with the names of the standard.
use Rattle.std.specs.List.{flat_map}
use Rattle.std.specs.Prelude.{[], ◌++◌, ◌+◌, ◌/◌, ◌∷◌, Bool, codes, drop, length, List, map, suc, take, zero, ℕ}
use Rattle.rbc_bits.specs.Bits.{filling, value_of}
use Rattle.rbc_msgs.specs.declared.train_body.TrainBody.{TrainBody}
use Rattle.rbc_msgs.specs.declared.train_body.TrainBody.TheVariants as train
use Rattle.rbc_msgs.specs.TrackSpelling.{track_number}
use Rattle.rbc_msgs.specs.TrainSpelling.{train_number}
use Rattle.rbc_msgs.specs.TrainText.{TrainText}
use Rattle.rbc_packets.specs.declared.level.Level.{Level}
use Rattle.rbc_packets.specs.declared.location.Location.{Location}
use Rattle.rbc_packets.specs.declared.position.Position.{Position}
use Rattle.rbc_packets.specs.declared.train_length.TrainLength.{TrainLength}
use Rattle.rbc_packets.specs.Layout.{widths}
use Rattle.rbc_packets.specs.Packet.{Packet}
use Rattle.rbc_packets.specs.PositionSpelling.{level_fields, location_fields, running_fields, train_length_fields}
use Rattle.rbc_packets.specs.TrackSpelling.{authority_fields, session_order_fields, transition_fields}
use Rattle.rbc_spec.specs.Message.{Authority, DataAcknowledged, EndSession, ShorteningRequest, SystemVersion, TrackBody}
use Rattle.rbc_spec.specs.Message.{TrackMessage, Transition}
use Rattle.rbc_vars.specs.Values.{q_status_value}
use Rattle.text_fields.specs.declared.messages.Side.{Side}
use Rattle.text_fields.specs.declared.messages.Side.TheVariants.{Centre, Train}
use Rattle.text_fields.specs.Named.{fields_in, Named, with_names}

-- ## Packets

-- a packet: NID_PACKET, and the fields after its header
pub record PacketFields : Type 0 where
  pub number : ℕ
  pub content : List Named

-- the header after NID_PACKET: L_PACKET counts the bits of the whole packet, and Q_DIR is nominal
abbrev pub packet_head : Side → ℕ → List Named
packet_head Train count = with_names (codes "L_PACKET" ∷ []) ((13, 21 + count) ∷ [])
packet_head Centre count = with_names (codes "Q_DIR" ∷ codes "L_PACKET" ∷ []) ((2, 1) ∷ (13, 23 + count) ∷ [])

abbrev pub packet_shown : Side → ℕ → List Named → List Named
packet_shown side number content =
    with_names (codes "NID_PACKET" ∷ []) ((8, number) ∷ [])
    ++ (packet_head side (widths (fields_in content)) ++ content)

abbrev pub packets_shown : Side → List PacketFields → List Named
packets_shown side packets = flat_map (λ p. packet_shown side p.number p.content) packets

-- packet 0, position report (7.4.3.1)
abbrev pub location_names : List (List ℕ)
location_names =
    codes "Q_SCALE" ∷ codes "NID_LRBG" ∷ codes "D_LRBG" ∷ codes "Q_DIRLRBG" ∷ codes "Q_DLRBG" ∷ codes "L_DOUBTOVER"
    ∷ codes "L_DOUBTUNDER"
    ∷ []

abbrev pub location_shown : Location → List Named
location_shown l = with_names location_names (location_fields l)

abbrev pub length_shown : TrainLength → List Named
length_shown l = with_names (codes "Q_LENGTH" ∷ codes "L_TRAININT" ∷ []) (train_length_fields l)

abbrev pub running_shown : Position → List Named
running_shown p = with_names (codes "V_TRAIN" ∷ codes "Q_DIRTRAIN" ∷ codes "M_MODE" ∷ []) (running_fields p)

abbrev pub level_shown : Level → List Named
level_shown l = with_names (codes "M_LEVEL" ∷ codes "NID_NTC" ∷ []) (level_fields l)

abbrev pub position_content : Position → List Named
position_content p =
    location_shown p.location
    ++ (length_shown p.train_length ++ (running_shown p ++ level_shown p.level))

-- packet 15, movement authority. END_SPEED and END_TIME, V_LOA and T_LOA of the standard, are names of this project
abbrev pub sections_shown : List Named
sections_shown = with_names
    (codes "Q_SCALE" ∷ codes "END_SPEED" ∷ codes "END_TIME" ∷ codes "N_ITER" ∷ [])
    ((2, 1) ∷ (7, 0) ∷ (10, 1023) ∷ (5, 0) ∷ [])

abbrev pub authority_content : ℕ → List Named
authority_content l = with_names
    (codes "Q_SCALE" ∷ codes "END_SPEED" ∷ codes "END_TIME" ∷ codes "N_ITER" ∷ codes "L_ENDSECTION"
    ∷ codes "Q_SECTIONTIMER"
    ∷ codes "Q_ENDTIMER" ∷ codes "Q_DANGERPOINT" ∷ codes "Q_OVERLAP" ∷ [])
    (authority_fields (record { l_endsection = l }))

-- packet 131, RBC transition order
abbrev pub transition_content : ℕ → ℕ → ℕ → List Named
transition_content d c r = with_names
    (codes "Q_SCALE" ∷ codes "D_RBCTR" ∷ codes "NID_C" ∷ codes "NID_RBC" ∷ codes "NID_RADIO"
    ∷ codes "Q_SLEEPSESSION"
    ∷ [])
    (transition_fields (record { d_rbctr = d; nid_c = c; nid_rbc = r }))

-- packet 42, session management
abbrev pub end_of_session_content : ℕ → ℕ → List Named
end_of_session_content c r = with_names
    (codes "Q_RBC" ∷ codes "NID_C" ∷ codes "NID_RBC" ∷ codes "NID_RADIO" ∷ codes "Q_SLEEPSESSION" ∷ [])
    (session_order_fields (record { nid_c = c; nid_rbc = r }))

-- bits without a meaning, as one field
abbrev pub bits_field : List Bool → Named
bits_field bits = record { name = codes "bits"; field = (length bits, value_of bits) }

-- n fields of 64 bits each, and a field of the bits that are left
abbrev pub bits_fields : ℕ → List Bool → List Named
bits_fields zero [] = []
bits_fields zero (b ∷ bits) = bits_field (b ∷ bits) ∷ []
bits_fields (suc n) bits = bits_field (take 64 bits) ∷ bits_fields n (drop 64 bits)

-- the bits of a packet that a decoder keeps without reading them
unfoldable pub kept_content : List Bool → List Named
kept_content bits = bits_fields (length bits / 64) bits

abbrev pub kept : Packet → PacketFields
kept p = record { number = p.nid_packet; content = kept_content p.bits }

-- ## Messages of trains

abbrev pub train_own : TrainBody → List Named
train_own (train.Request reason position) = with_names (codes "Q_MARQSTREASON" ∷ []) ((5, reason) ∷ [])
train_own (train.ShorteningGranted request position) = with_names (codes "T_TRAIN" ∷ []) ((32, request) ∷ [])
train_own (train.ShorteningRejected request position) = with_names (codes "T_TRAIN" ∷ []) ((32, request) ∷ [])
train_own (train.StartOfMission status position) =
    with_names (codes "Q_STATUS" ∷ []) ((2, q_status_value status) ∷ [])
train_own other = []

abbrev pub report : Position → List PacketFields
report p = record { number = 0; content = position_content p } ∷ []

abbrev pub train_packets : TrainBody → List PacketFields
train_packets (train.TrainData position packet) =
    record { number = 0; content = position_content position } ∷ kept packet ∷ []
train_packets (train.Request reason position) = report position
train_packets (train.Report position) = report position
train_packets (train.ShorteningGranted request position) = report position
train_packets (train.ShorteningRejected request position) = report position
train_packets (train.EndOfMission position) = report position
train_packets (train.StartOfMission status position) = report position
train_packets other = []

-- ## Messages of centres

abbrev pub track_own : TrackBody → List Named
track_own (DataAcknowledged stamp) = with_names (codes "T_TRAIN" ∷ []) ((32, stamp) ∷ [])
track_own SystemVersion = with_names (codes "M_VERSION" ∷ []) ((7, 32) ∷ [])
track_own other = []

abbrev pub track_packets : TrackBody → List PacketFields
track_packets (Authority l) = record { number = 15; content = authority_content l } ∷ []
track_packets (ShorteningRequest l) = record { number = 15; content = authority_content l } ∷ []
track_packets (Transition d c r) = record { number = 131; content = transition_content d c r } ∷ []
track_packets (EndSession c r) = record { number = 42; content = end_of_session_content c r } ∷ []
track_packets other = []

-- ## All fields

-- the bits that fill the last byte
abbrev pub filling_fields : ℕ → List Named
filling_fields zero = []
filling_fields (suc n) = with_names (codes "filling" ∷ []) ((suc n, 0) ∷ [])

abbrev pub with_filling : List Named → List Named
with_filling fields = fields ++ filling_fields (filling (widths (fields_in fields)))

-- NID_MESSAGE before other fields
abbrev pub numbered : ℕ → List Named → List Named
numbered n fields = with_names (codes "NID_MESSAGE" ∷ []) ((8, n) ∷ []) ++ fields

-- the header of a train's message after NID_MESSAGE
abbrev pub train_head : ℕ → ℕ → ℕ → List Named
train_head l t engine =
    with_names (codes "L_MESSAGE" ∷ codes "T_TRAIN" ∷ codes "NID_ENGINE" ∷ [])
    ((10, l) ∷ (32, t) ∷ (24, engine) ∷ [])

-- that of a centre's message: no acknowledgement is asked for
abbrev pub track_head : ℕ → ℕ → ℕ → List Named
track_head l t group =
    with_names (codes "L_MESSAGE" ∷ codes "T_TRAIN" ∷ codes "M_ACK" ∷ codes "NID_LRBG" ∷ [])
    ((10, l) ∷ (32, t) ∷ (1, 0) ∷ (24, group) ∷ [])

-- the fields of a train's message after its header: its own field, its packets, further packets
abbrev pub train_after : TrainText → List Named
train_after m =
    train_own m.body ++ (packets_shown Train (train_packets m.body) ++ packets_shown Train (map kept m.further))

-- the shown fields of a train's message of this length
abbrev pub train_shown : ℕ → TrainText → List Named
train_shown l m =
    with_filling (numbered (train_number m.body) (train_head l m.t_train m.nid_engine) ++ train_after m)

-- the shown fields of a centre's message
abbrev pub track_shown : ℕ → TrackMessage → List Named
track_shown l m = with_filling (numbered (track_number m.body) (track_head l m.t_train m.nid_lrbg)
    ++ (track_own m.body ++ packets_shown Centre (track_packets m.body)))
