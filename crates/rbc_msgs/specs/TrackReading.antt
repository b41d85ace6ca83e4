-- The order in which the bytes of a centre's message are tested (profile).
use Rattle.std.specs.Prelude.{if◌then◌else◌, ◌==◌, Bool, Err, List, Ok, Result, ℕ}
use Rattle.rbc_bits.specs.Reading.{field_at}
use Rattle.rbc_msgs.specs.declared.fault.MsgFault.{MsgFault}
use Rattle.rbc_msgs.specs.declared.fault.MsgFault.TheVariants.{Length, Missing, Short}
use Rattle.rbc_msgs.specs.declared.number.TrackNumber.{TrackNumber}
use Rattle.rbc_msgs.specs.declared.number.TrackNumber.TheVariants as number
use Rattle.rbc_msgs.specs.Numbers.{least_track_length, track_of_number}
use Rattle.rbc_msgs.specs.Reading.{end_at, fixed_at, packet_read, required_at, start_at, time_at, whole_at}
use Rattle.rbc_packets.specs.Steps.{◌>>=◌}
use Rattle.rbc_packets.specs.TrackReading.{authority_at, session_order_at, transition_at}
use Rattle.rbc_spec.specs.Message.{Authority, DataAcknowledged, EndSession, ShorteningRequest, SystemVersion}
use Rattle.rbc_spec.specs.Message.{TerminationAcknowledged, TrackBody, TrackMessage, TrainAccepted, TrainRejected}
use Rattle.rbc_spec.specs.Message.{Transition}

-- L_ENDSECTION of packet 15, which is required
unfoldable pub end_of_authority_at : List Bool → Result (ℕ × List Bool) MsgFault
end_of_authority_at bits = do
  found ← required_at 15 bits
  authority ← packet_read (authority_at found.1)
  Ok (authority.0.l_endsection, authority.1)

-- packet 131 after its number
unfoldable pub transition_order_at : List Bool → Result (TrackBody × List Bool) MsgFault
transition_order_at bits = do
  transition ← packet_read (transition_at bits)
  Ok (Transition transition.0.d_rbctr transition.0.nid_c transition.0.nid_rbc, transition.1)

-- packet 42 after its number
unfoldable pub end_of_session_at : List Bool → Result (TrackBody × List Bool) MsgFault
end_of_session_at bits = do
  order ← packet_read (session_order_at bits)
  Ok (EndSession order.0.nid_c order.0.nid_rbc, order.1)

-- packet 131 or packet 42, one of which is required
unfoldable pub general_at : List Bool → Result (TrackBody × List Bool) MsgFault
general_at bits = do
  found ← field_at Missing 8 bits
  if found.0 == 131 then transition_order_at found.1
      else (if found.0 == 42 then end_of_session_at found.1 else Err Missing)

-- the fields after the header; M_VERSION has to be version 2.0
abbrev pub track_body_at : TrackNumber → List Bool → Result (TrackBody × List Bool) MsgFault
track_body_at number.MovementAuthority bits = end_of_authority_at bits >>= λ l. Ok (Authority l.0, l.1)
track_body_at number.DataAcknowledged bits = field_at Short 32 bits >>= λ stamp. Ok (DataAcknowledged stamp.0, stamp.1)
track_body_at number.ShorteningRequest bits = end_of_authority_at bits >>= λ l. Ok (ShorteningRequest l.0, l.1)
track_body_at number.GeneralMessage bits = general_at bits
track_body_at number.SystemVersion bits = fixed_at 7 32 bits >>= λ version. Ok (SystemVersion, version.1)
track_body_at number.TerminationAcknowledged bits = Ok (TerminationAcknowledged, bits)
track_body_at number.TrainRejected bits = Ok (TrainRejected, bits)
track_body_at number.TrainAccepted bits = Ok (TrainAccepted, bits)

-- M_ACK has to ask for no acknowledgement.
unfoldable pub read_track : List ℕ → Result TrackMessage MsgFault
read_track bytes = do
  start ← start_at bytes
  number ← track_of_number start.0
  bits ← whole_at (least_track_length number) start.1 bytes
  t_train ← time_at bits
  m_ack ← fixed_at 1 0 t_train.1
  nid_lrbg ← field_at Short 24 m_ack.1
  body ← track_body_at number nid_lrbg.1
  _ ← end_at Length body.1
  Ok (record { t_train = t_train.0; nid_lrbg = nid_lrbg.0; body = body.0 })
