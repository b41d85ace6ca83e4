-- The message that the fields of a statement name.
use Rattle.std.specs.Prelude.{[], ◌%◌, ◌&&◌, ◌/◌, ◌==◌, ◌^◌, Err, if◌then◌else◌, length, List, nat_lt, None, Ok, Option}
use Rattle.std.specs.Prelude.{Result, Some, ℕ}
use Rattle.rbc_bits.specs.Bits.{bits_of}
use Rattle.rbc_msgs.specs.declared.train_body.TrainBody.{TrainBody}
use Rattle.rbc_msgs.specs.declared.train_body.TrainBody.TheVariants as body
use Rattle.rbc_msgs.specs.TrainText.{TrainText}
use Rattle.rbc_packets.specs.declared.position.Position.{Position}
use Rattle.rbc_packets.specs.Packet.{Packet}
use Rattle.rbc_packets.specs.Steps.{◌>>=◌}
use Rattle.rbc_spec.specs.Message.{unknown_time}
use Rattle.rbc_packets.specs.declared.level.Level.TheVariants.{Level2}
use Rattle.rbc_packets.specs.declared.train_length.TrainLength.TheVariants.{ConfirmedByDevice}
use Rattle.rbc_vars.specs.declared.direction.Direction.TheVariants as direction
use Rattle.rbc_vars.specs.declared.scale.QScale.{QScale}
use Rattle.rbc_vars.specs.declared.scale.QScale.TheVariants as scale
use Rattle.text_scenario.specs.declared.fault.SentFault.{SentFault}
use Rattle.text_scenario.specs.declared.fault.SentFault.TheVariants.{NoPosition, Time, TooLong, Unit}
use Rattle.text_scenario.specs.declared.kind.Kind.{Kind}
use Rattle.text_scenario.specs.declared.kind.Kind.TheVariants as kind
use Rattle.text_scenario.specs.declared.report.Report.{Report}
use Rattle.text_scenario.specs.declared.sent.Sent.{Sent}

-- the report of a line that names no field: a train of 200 m at standstill, in full supervision under level 2
abbrev pub usual : Report
usual = record {
  nid_lrbg = 16777215;
  q_scale = scale.Metre;
  distance = 0;
  q_dirlrbg = direction.Nominal;
  q_dlrbg = direction.Nominal;
  in_rear = 100;
  in_advance = 200;
  v_train = 0;
  train_length = ConfirmedByDevice 200;
  q_dirtrain = direction.Nominal;
  m_mode = 0;
  level = Level2;
}

-- the unit of a scale, in decimetres
abbrev pub unit_of : QScale → ℕ
unit_of scale.Decimetre = 1
unit_of scale.Metre = 10
unit_of scale.Decametre = 100

-- the number of units in a distance, if it is whole and 15 bits have room for it
abbrev pub units_of : QScale → ℕ → Result ℕ SentFault
units_of s distance =
    if (distance % unit_of s == 0) && nat_lt (distance / unit_of s) (2 ^ 15) then Ok (distance / unit_of s)
    else Err Unit

-- the position report: its distances are in the unit of its scale
unfoldable pub position_of : Report → Result Position SentFault
position_of r = do
  d_lrbg ← units_of r.q_scale r.distance
  l_doubtover ← units_of r.q_scale r.in_rear
  l_doubtunder ← units_of r.q_scale r.in_advance
  Ok (record {
    location = record {
      nid_lrbg = r.nid_lrbg;
      q_scale = r.q_scale;
      d_lrbg = d_lrbg;
      q_dirlrbg = r.q_dirlrbg;
      q_dlrbg = r.q_dlrbg;
      l_doubtover = l_doubtover;
      l_doubtunder = l_doubtunder;
    };
    v_train = r.v_train;
    train_length = r.train_length;
    q_dirtrain = r.q_dirtrain;
    m_mode = r.m_mode;
    level = r.level;
  })

abbrev pub position_in : Option Report → Result Position SentFault
position_in None = Err NoPosition
position_in (Some report) = position_of report

-- packet 11 with these bytes after its header
abbrev pub packet_of : List ℕ → Result Packet SentFault
packet_of content =
    if nat_lt (length content) 1022 then Ok (record { nid_packet = 11; bits = bits_of content }) else Err TooLong

-- the body of a message of this kind
unfoldable pub body_of : Kind → List ℕ → Result Position SentFault → Result TrainBody SentFault
body_of kind.TrainData content position = do
  p ← position
  packet ← packet_of content
  Ok (body.TrainData p packet)
body_of (kind.Request reason) content position = position >>= λ p. Ok (body.Request reason p)
body_of kind.Report content position = position >>= λ p. Ok (body.Report p)
body_of (kind.ShorteningGranted request) content position = position >>= λ p. Ok (body.ShorteningGranted request p)
body_of (kind.ShorteningRejected request) content position = position >>= λ p. Ok (body.ShorteningRejected request p)
body_of kind.EndOfMission content position = position >>= λ p. Ok (body.EndOfMission p)
body_of kind.InitiationOfSession content position = Ok body.InitiationOfSession
body_of kind.TerminationOfSession content position = Ok body.TerminationOfSession
body_of (kind.StartOfMission status) content position = position >>= λ p. Ok (body.StartOfMission status p)
body_of kind.SessionEstablished content position = Ok body.SessionEstablished

-- the message of this body, if T_TRAIN is known
abbrev pub timed : Sent → ℕ → TrainBody → Result TrainText SentFault
timed s t_train body =
    if t_train == unknown_time then Err Time
    else Ok (record { t_train = t_train; nid_engine = s.nid_engine; body = body; further = [] })

-- the message that a statement names, with this T_TRAIN
abbrev pub message_named : Sent → ℕ → Result TrainText SentFault
message_named s t_train = body_of s.kind s.content.items (position_in s.report) >>= timed s t_train
