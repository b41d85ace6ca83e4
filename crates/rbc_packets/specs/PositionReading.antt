-- The order in which a position report is tested (profile).
use Rattle.std.specs.Prelude.{Bool, List, Result, Ok}
use Rattle.rbc_bits.specs.Reading.{field_at}
use Rattle.rbc_vars.specs.declared.length.QLength.{QLength}
use Rattle.rbc_vars.specs.declared.length.QLength.TheVariants as q_length
use Rattle.rbc_vars.specs.declared.level.MLevel.{MLevel}
use Rattle.rbc_vars.specs.declared.level.MLevel.TheVariants as m_level
use Rattle.rbc_packets.specs.Steps.{◌>>=◌}
use Rattle.rbc_packets.specs.Reading.{train_part_at, none_left, q_scale_at, direction_at, q_length_at, m_level_at}
use Rattle.rbc_packets.specs.declared.fault.PacketFault.{PacketFault}
use Rattle.rbc_packets.specs.declared.fault.PacketFault.TheVariants.{Length}
use Rattle.rbc_packets.specs.declared.location.Location.{Location}
use Rattle.rbc_packets.specs.declared.train_length.TrainLength.{TrainLength}
use Rattle.rbc_packets.specs.declared.train_length.TrainLength.TheVariants as train_length
use Rattle.rbc_packets.specs.declared.level.Level.{Level}
use Rattle.rbc_packets.specs.declared.level.Level.TheVariants as level
use Rattle.rbc_packets.specs.declared.position.Position.{Position}

unfoldable pub location_at : List Bool → Result (Location × List Bool) PacketFault
location_at bits = do
  q_scale ← q_scale_at bits
  nid_lrbg ← field_at Length 24 q_scale.1
  d_lrbg ← field_at Length 15 nid_lrbg.1
  q_dirlrbg ← direction_at d_lrbg.1
  q_dlrbg ← direction_at q_dirlrbg.1
  l_doubtover ← field_at Length 15 q_dlrbg.1
  l_doubtunder ← field_at Length 15 l_doubtover.1
  Ok (
    record {
      q_scale = q_scale.0;
      nid_lrbg = nid_lrbg.0;
      d_lrbg = d_lrbg.0;
      q_dirlrbg = q_dirlrbg.0;
      q_dlrbg = q_dlrbg.0;
      l_doubtover = l_doubtover.0;
      l_doubtunder = l_doubtunder.0;
    },
    l_doubtunder.1,
  )

-- L_TRAININT is there only if Q_LENGTH is 1 or 2
abbrev pub l_trainint_at : QLength → List Bool → Result (TrainLength × List Bool) PacketFault
l_trainint_at q_length.NoInformation bits = Ok (train_length.NoInformation, bits)
l_trainint_at q_length.ConfirmedByDevice bits =
    field_at Length 15 bits >>= λ l. Ok (train_length.ConfirmedByDevice l.0, l.1)
l_trainint_at q_length.ConfirmedByDriver bits =
    field_at Length 15 bits >>= λ l. Ok (train_length.ConfirmedByDriver l.0, l.1)
l_trainint_at q_length.Lost bits = Ok (train_length.Lost, bits)

unfoldable pub train_length_at : List Bool → Result (TrainLength × List Bool) PacketFault
train_length_at bits = do
  q_length ← q_length_at bits
  l_trainint_at q_length.0 q_length.1

-- NID_NTC is there only if M_LEVEL is 1
abbrev pub nid_ntc_at : MLevel → List Bool → Result (Level × List Bool) PacketFault
nid_ntc_at m_level.Level0 bits = Ok (level.Level0, bits)
nid_ntc_at m_level.Ntc bits = field_at Length 8 bits >>= λ n. Ok (level.Ntc n.0, n.1)
nid_ntc_at m_level.Level1 bits = Ok (level.Level1, bits)
nid_ntc_at m_level.Level2 bits = Ok (level.Level2, bits)
nid_ntc_at m_level.Level3 bits = Ok (level.Level3, bits)
nid_ntc_at m_level.Spare5 bits = Ok (level.Spare5, bits)
nid_ntc_at m_level.Spare6 bits = Ok (level.Spare6, bits)
nid_ntc_at m_level.Spare7 bits = Ok (level.Spare7, bits)

unfoldable pub level_at : List Bool → Result (Level × List Bool) PacketFault
level_at bits = do
  m_level ← m_level_at bits
  nid_ntc_at m_level.0 m_level.1

-- the fields after the header
unfoldable pub position_fields_at : List Bool → Result (Position × List Bool) PacketFault
position_fields_at bits = do
  location ← location_at bits
  train_length ← train_length_at location.1
  v_train ← field_at Length 7 train_length.1
  q_dirtrain ← direction_at v_train.1
  m_mode ← field_at Length 4 q_dirtrain.1
  level ← level_at m_mode.1
  Ok (
    record {
      location = location.0;
      train_length = train_length.0;
      v_train = v_train.0;
      q_dirtrain = q_dirtrain.0;
      m_mode = m_mode.0;
      level = level.0;
    },
    level.1,
  )

-- all bits after the header, and the bits after the packet
abbrev pub position_part_at : List Bool → List Bool → Result (Position × List Bool) PacketFault
position_part_at bits rest = do
  position ← position_fields_at bits
  _ ← none_left position.1
  Ok (position.0, rest)

-- the packet after NID_PACKET, and the bits after it
unfoldable pub position_at : List Bool → Result (Position × List Bool) PacketFault
position_at bits = do
  part ← train_part_at bits
  position_part_at part.0 part.1
