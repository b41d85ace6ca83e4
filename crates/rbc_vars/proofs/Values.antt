-- A named value has one number, and no other value has it.
use Rattle.std.proofs.Common.{◌<◌, ◌^◌, ◌≡◌, arith, refl, Some}
use Rattle.rbc_vars.specs.declared.direction.Direction.{Direction}
use Rattle.rbc_vars.specs.declared.direction.Direction.TheVariants as direction
use Rattle.rbc_vars.specs.declared.length.QLength.{QLength}
use Rattle.rbc_vars.specs.declared.length.QLength.TheVariants as q_length
use Rattle.rbc_vars.specs.declared.level.MLevel.{MLevel}
use Rattle.rbc_vars.specs.declared.level.MLevel.TheVariants as level
use Rattle.rbc_vars.specs.declared.scale.QScale.{QScale}
use Rattle.rbc_vars.specs.declared.scale.QScale.TheVariants as scale
use Rattle.rbc_vars.specs.declared.status.QStatus.{QStatus}
use Rattle.rbc_vars.specs.declared.status.QStatus.TheVariants as status
use Rattle.rbc_vars.specs.Values.{direction_of, direction_value, m_level_of, m_level_value, q_length_of, q_length_value}
use Rattle.rbc_vars.specs.Values.{q_scale_of, q_scale_value, q_status_of, q_status_value}

pub q_scale-again : (v : QScale) → q_scale_of (q_scale_value v) ≡ Some v
unfolding q_scale_of
q_scale-again scale.Decimetre = refl
q_scale-again scale.Metre = refl
q_scale-again scale.Decametre = refl

pub q_scale-fits : (v : QScale) → q_scale_value v < 2 ^ 2
q_scale-fits scale.Decimetre = omega arith
q_scale-fits scale.Metre = omega arith
q_scale-fits scale.Decametre = omega arith

pub direction-again : (v : Direction) → direction_of (direction_value v) ≡ Some v
unfolding direction_of
direction-again direction.Reverse = refl
direction-again direction.Nominal = refl
direction-again direction.Unknown = refl
direction-again direction.Spare = refl

pub direction-fits : (v : Direction) → direction_value v < 2 ^ 2
direction-fits direction.Reverse = omega arith
direction-fits direction.Nominal = omega arith
direction-fits direction.Unknown = omega arith
direction-fits direction.Spare = omega arith

pub q_length-again : (v : QLength) → q_length_of (q_length_value v) ≡ Some v
unfolding q_length_of
q_length-again q_length.NoInformation = refl
q_length-again q_length.ConfirmedByDevice = refl
q_length-again q_length.ConfirmedByDriver = refl
q_length-again q_length.Lost = refl

pub m_level-again : (v : MLevel) → m_level_of (m_level_value v) ≡ Some v
unfolding m_level_of
m_level-again level.Level0 = refl
m_level-again level.Ntc = refl
m_level-again level.Level1 = refl
m_level-again level.Level2 = refl
m_level-again level.Level3 = refl
m_level-again level.Spare5 = refl
m_level-again level.Spare6 = refl
m_level-again level.Spare7 = refl

pub q_status-again : (v : QStatus) → q_status_of (q_status_value v) ≡ Some v
unfolding q_status_of
q_status-again status.Invalid = refl
q_status-again status.Valid = refl
q_status-again status.Unknown = refl

pub q_status-fits : (v : QStatus) → q_status_value v < 2 ^ 2
q_status-fits status.Invalid = omega arith
q_status-fits status.Valid = omega arith
q_status-fits status.Unknown = omega arith

pub q_length-fits : (v : QLength) → q_length_value v < 2 ^ 2
q_length-fits q_length.NoInformation = omega arith
q_length-fits q_length.ConfirmedByDevice = omega arith
q_length-fits q_length.ConfirmedByDriver = omega arith
q_length-fits q_length.Lost = omega arith

pub m_level-fits : (v : MLevel) → m_level_value v < 2 ^ 3
m_level-fits level.Level0 = omega arith
m_level-fits level.Ntc = omega arith
m_level-fits level.Level1 = omega arith
m_level-fits level.Level2 = omega arith
m_level-fits level.Level3 = omega arith
m_level-fits level.Spare5 = omega arith
m_level-fits level.Spare6 = omega arith
m_level-fits level.Spare7 = omega arith
