-- The fields of a train's message that a centre's step reads.
use Rattle.std.specs.Prelude.{ℕ, Bool, true, false, ◌&&◌, Option, Some, None}
use Rattle.rbc_spec.specs.Place as place
use Rattle.rbc_spec.specs.Message as said
use Rattle.rbc_vars.specs.declared.scale.QScale.{QScale}
use Rattle.rbc_vars.specs.declared.scale.QScale.TheVariants as scale
use Rattle.rbc_vars.specs.declared.direction.Direction.{Direction}
use Rattle.rbc_vars.specs.declared.direction.Direction.TheVariants as direction
use Rattle.rbc_vars.specs.declared.status.QStatus.{QStatus}
use Rattle.rbc_vars.specs.declared.status.QStatus.TheVariants as status
use Rattle.rbc_packets.specs.declared.train_length.TrainLength.{TrainLength}
use Rattle.rbc_packets.specs.declared.train_length.TrainLength.TheVariants as train_length
use Rattle.rbc_packets.specs.declared.level.Level.{Level}
use Rattle.rbc_packets.specs.declared.level.Level.TheVariants as level
use Rattle.rbc_packets.specs.declared.position.Position.{Position}
use Rattle.rbc_msgs.specs.TrainText.{TrainText}
use Rattle.rbc_msgs.specs.declared.train_body.TrainBody.{TrainBody}
use Rattle.rbc_msgs.specs.declared.train_body.TrainBody.TheVariants as body

-- the unit of the distances, in decimetres
abbrev pub decimetres : QScale → ℕ
decimetres scale.Decimetre = 1
decimetres scale.Metre = 10
decimetres scale.Decametre = 100

abbrev pub is_nominal : Direction → Bool
is_nominal direction.Nominal = true
is_nominal other = false

-- L_TRAININT if train integrity is confirmed
abbrev pub confirmed_length : TrainLength → Option ℕ
confirmed_length (train_length.ConfirmedByDevice l) = Some l
confirmed_length (train_length.ConfirmedByDriver l) = Some l
confirmed_length other = None

abbrev pub is_level_2 : Level → Bool
is_level_2 level.Level2 = true
is_level_2 other = false

abbrev pub is_valid : QStatus → Bool
is_valid status.Valid = true
is_valid other = false

-- the fields of a position report that are read
abbrev pub position_of : Position → place.Position
position_of p = record {
  scale = decimetres p.location.q_scale;
  nid_lrbg = p.location.nid_lrbg;
  d_lrbg = p.location.d_lrbg;
  is_nominal = is_nominal p.location.q_dirlrbg && is_nominal p.location.q_dlrbg;
  l_doubtover = p.location.l_doubtover;
  l_doubtunder = p.location.l_doubtunder;
  l_trainint = confirmed_length p.train_length;
  v_train = p.v_train;
  is_level_2 = is_level_2 p.level;
}

abbrev pub step_body : TrainBody → said.TrainBody
step_body (body.TrainData position packet) = said.TrainData (position_of position)
step_body (body.Request reason position) = said.Request (position_of position)
step_body (body.Report position) = said.Report (position_of position)
step_body (body.ShorteningGranted request position) = said.ShorteningGranted request (position_of position)
step_body (body.ShorteningRejected request position) = said.ShorteningRejected request (position_of position)
step_body (body.EndOfMission position) = said.EndOfMission (position_of position)
step_body body.InitiationOfSession = said.InitiationOfSession
step_body body.TerminationOfSession = said.TerminationOfSession
step_body (body.StartOfMission status position) = said.StartOfMission (is_valid status) (position_of position)
step_body body.SessionEstablished = said.SessionEstablished

-- the message that a centre's step knows: further packets are not looked at
abbrev pub step_message : TrainText → said.TrainMessage
step_message m = record { t_train = m.t_train; nid_engine = m.nid_engine; body = step_body m.body }
