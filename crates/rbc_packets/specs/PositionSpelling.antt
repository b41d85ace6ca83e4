-- How a position report is spelled: packet 0 (SUBSET-026 7.4.3.1).
use Rattle.std.specs.Prelude.{◌^◌, ◌<◌, List, [], ◌∷◌, ◌++◌}
use Rattle.rbc_vars.specs.Values.{q_scale_value, direction_value}
use Rattle.rbc_packets.specs.Layout.{Field}
use Rattle.rbc_packets.specs.declared.location.Location.{Location}
use Rattle.rbc_packets.specs.declared.train_length.TrainLength.{TrainLength}
use Rattle.rbc_packets.specs.declared.train_length.TrainLength.TheVariants as train_length
use Rattle.rbc_packets.specs.declared.level.Level.{Level}
use Rattle.rbc_packets.specs.declared.level.Level.TheVariants as level
use Rattle.rbc_packets.specs.declared.position.Position.{Position}

-- Q_SCALE, NID_LRBG, D_LRBG, Q_DIRLRBG, Q_DLRBG, L_DOUBTOVER, L_DOUBTUNDER
abbrev pub location_fields : Location → List Field
location_fields l =
    (2, q_scale_value l.q_scale) ∷ (24, l.nid_lrbg) ∷ (15, l.d_lrbg) ∷ (2, direction_value l.q_dirlrbg)
    ∷ (2, direction_value l.q_dlrbg)
    ∷ (15, l.l_doubtover) ∷ (15, l.l_doubtunder) ∷ []

-- Q_LENGTH, and L_TRAININT if train integrity is confirmed
abbrev pub train_length_fields : TrainLength → List Field
train_length_fields train_length.NoInformation = (2, 0) ∷ []
train_length_fields (train_length.ConfirmedByDevice l_trainint) = (2, 1) ∷ (15, l_trainint) ∷ []
train_length_fields (train_length.ConfirmedByDriver l_trainint) = (2, 2) ∷ (15, l_trainint) ∷ []
train_length_fields train_length.Lost = (2, 3) ∷ []

-- V_TRAIN, Q_DIRTRAIN, M_MODE
abbrev pub running_fields : Position → List Field
running_fields p = (7, p.v_train) ∷ (2, direction_value p.q_dirtrain) ∷ (4, p.m_mode) ∷ []

-- M_LEVEL, and NID_NTC for level NTC
abbrev pub level_fields : Level → List Field
level_fields level.Level0 = (3, 0) ∷ []
level_fields (level.Ntc nid_ntc) = (3, 1) ∷ (8, nid_ntc) ∷ []
level_fields level.Level1 = (3, 2) ∷ []
level_fields level.Level2 = (3, 3) ∷ []
level_fields level.Level3 = (3, 4) ∷ []
level_fields level.Spare5 = (3, 5) ∷ []
level_fields level.Spare6 = (3, 6) ∷ []
level_fields level.Spare7 = (3, 7) ∷ []

-- all fields after the header
abbrev pub position_fields : Position → List Field
position_fields p =
    location_fields p.location ++ (train_length_fields p.train_length ++ (running_fields p ++ level_fields p.level))

-- each value has room in its field
pub record LocationFits (l : Location) : Type 0 where
  pub nid_lrbg : l.nid_lrbg < 2 ^ 24
  pub d_lrbg : l.d_lrbg < 2 ^ 15
  pub l_doubtover : l.l_doubtover < 2 ^ 15
  pub l_doubtunder : l.l_doubtunder < 2 ^ 15

abbrev pub TrainLengthFits : TrainLength → Type 0
TrainLengthFits train_length.NoInformation = Unit {0}
TrainLengthFits (train_length.ConfirmedByDevice l_trainint) = l_trainint < 2 ^ 15
TrainLengthFits (train_length.ConfirmedByDriver l_trainint) = l_trainint < 2 ^ 15
TrainLengthFits train_length.Lost = Unit {0}

abbrev pub LevelFits : Level → Type 0
LevelFits (level.Ntc nid_ntc) = nid_ntc < 2 ^ 8
LevelFits other = Unit {0}

abbrev pub RunningFits : Position → Type 0
RunningFits p = (p.v_train < 2 ^ 7) × (p.m_mode < 2 ^ 4)

pub record PositionFits (p : Position) : Type 0 where
  pub location : LocationFits p.location
  pub train_length : TrainLengthFits p.train_length
  pub running : RunningFits p
  pub level : LevelFits p.level
