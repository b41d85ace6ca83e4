-- How the message of a centre is spelled (SUBSET-026 8.7).
use Rattle.std.specs.Prelude.{[], ◌++◌, ◌+◌, ◌/◌, ◌<◌, ◌^◌, ◌∷◌, ◌≡◌, length, List, ℕ}
use Rattle.rbc_bits.specs.Bits.{bits_of, filled}
use Rattle.rbc_msgs.specs.Layout.{length_limit}
use Rattle.rbc_packets.specs.Layout.{Field, joined, track_packet, widths}
use Rattle.rbc_packets.specs.TrackSpelling.{authority_fields, session_order_fields, transition_fields}
use Rattle.rbc_spec.specs.Message.{Authority, DataAcknowledged, EndSession, ShorteningRequest, SystemVersion}
use Rattle.rbc_spec.specs.Message.{TerminationAcknowledged, TrackBody, TrackMessage, TrainAccepted, TrainRejected}
use Rattle.rbc_spec.specs.Message.{Transition, unknown_time}

-- NID_MESSAGE
abbrev pub track_number : TrackBody → ℕ
track_number (Authority l) = 3
track_number (DataAcknowledged stamp) = 8
track_number (ShorteningRequest l) = 9
track_number (Transition d c r) = 24
track_number (EndSession c r) = 24
track_number SystemVersion = 32
track_number TerminationAcknowledged = 39
track_number TrainRejected = 40
track_number TrainAccepted = 41

-- the header: NID_MESSAGE, L_MESSAGE, T_TRAIN, M_ACK (no acknowledgement), NID_LRBG
abbrev pub track_header : ℕ → TrackMessage → List Field
track_header l_message m = (8, track_number m.body) ∷ (10, l_message) ∷ (32, m.t_train) ∷ (1, 0) ∷ (24, m.nid_lrbg) ∷ []

-- the fields after the header: packet 15; T_TRAIN of the train data; packet 131 or 42; M_VERSION, which is 32 for
-- version 2.0
abbrev pub track_body_fields : TrackBody → List Field
track_body_fields (Authority l) = (8, 15) ∷ track_packet (authority_fields (record { l_endsection = l }))
track_body_fields (DataAcknowledged stamp) = (32, stamp) ∷ []
track_body_fields (ShorteningRequest l) = (8, 15) ∷ track_packet (authority_fields (record { l_endsection = l }))
track_body_fields (Transition d c r) =
    (8, 131) ∷ track_packet (transition_fields (record { d_rbctr = d; nid_c = c; nid_rbc = r }))
track_body_fields (EndSession c r) = (8, 42) ∷ track_packet (session_order_fields (record { nid_c = c; nid_rbc = r }))
track_body_fields SystemVersion = (7, 32) ∷ []
track_body_fields other = []

abbrev pub track_fields : ℕ → TrackMessage → List Field
track_fields l_message m = track_header l_message m ++ track_body_fields m.body

-- how many bytes it takes: its header has 75 bits
abbrev pub track_length : TrackBody → ℕ
track_length body = (75 + widths (track_body_fields body) + 7) / 8

-- each value has room in its field
abbrev pub TrackBodyFits : TrackBody → Type 0
TrackBodyFits (Authority l) = l < 2 ^ 15
TrackBodyFits (DataAcknowledged stamp) = stamp < 2 ^ 32
TrackBodyFits (ShorteningRequest l) = l < 2 ^ 15
TrackBodyFits (Transition d c r) = (d < 2 ^ 15) × (c < 2 ^ 10) × (r < 2 ^ 14)
TrackBodyFits (EndSession c r) = (c < 2 ^ 10) × (r < 2 ^ 14)
TrackBodyFits other = Unit {0}

pub record TrackFits (m : TrackMessage) : Type 0 where
  pub t_train : m.t_train < unknown_time
  pub nid_lrbg : m.nid_lrbg < 2 ^ 24
  pub body : TrackBodyFits m.body

-- the bytes spell the message: L_MESSAGE is their number, T_TRAIN is known, and each value has room in its field
pub record SpellsTrack (bytes : List ℕ) (m : TrackMessage) : Type 0 where
  pub text : bits_of bytes ≡ filled (joined (track_fields (length bytes) m))
  pub l_message : length bytes < length_limit
  pub fits : TrackFits m
