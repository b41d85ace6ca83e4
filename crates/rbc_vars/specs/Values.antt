-- The meanings of the values of variables (SUBSET-026 7.5).
use Rattle.std.specs.Prelude.{ℕ, ◌==◌, List, [], ◌∷◌, Option}
use Rattle.std.specs.List.{find}
use Rattle.rbc_vars.specs.declared.scale.QScale.{QScale}
use Rattle.rbc_vars.specs.declared.scale.QScale.TheVariants as scale
use Rattle.rbc_vars.specs.declared.direction.Direction.{Direction}
use Rattle.rbc_vars.specs.declared.direction.Direction.TheVariants as direction
use Rattle.rbc_vars.specs.declared.length.QLength.{QLength}
use Rattle.rbc_vars.specs.declared.length.QLength.TheVariants as integrity
use Rattle.rbc_vars.specs.declared.level.MLevel.{MLevel}
use Rattle.rbc_vars.specs.declared.level.MLevel.TheVariants as level
use Rattle.rbc_vars.specs.declared.status.QStatus.{QStatus}
use Rattle.rbc_vars.specs.declared.status.QStatus.TheVariants as status

-- Q_SCALE: 10 cm, 1 m, 10 m
abbrev pub q_scale_value : QScale → ℕ
q_scale_value scale.Decimetre = 0
q_scale_value scale.Metre = 1
q_scale_value scale.Decametre = 2

abbrev pub q_scales : List QScale
q_scales = scale.Decimetre ∷ scale.Metre ∷ scale.Decametre ∷ []

unfoldable pub q_scale_of : ℕ → Option QScale
q_scale_of n = find (λ v. q_scale_value v == n) q_scales

-- Q_DIRLRBG, Q_DLRBG, Q_DIRTRAIN
abbrev pub direction_value : Direction → ℕ
direction_value direction.Reverse = 0
direction_value direction.Nominal = 1
direction_value direction.Unknown = 2
direction_value direction.Spare = 3

abbrev pub directions : List Direction
directions = direction.Reverse ∷ direction.Nominal ∷ direction.Unknown ∷ direction.Spare ∷ []

unfoldable pub direction_of : ℕ → Option Direction
direction_of n = find (λ v. direction_value v == n) directions

-- Q_LENGTH
abbrev pub q_length_value : QLength → ℕ
q_length_value integrity.NoInformation = 0
q_length_value integrity.ConfirmedByDevice = 1
q_length_value integrity.ConfirmedByDriver = 2
q_length_value integrity.Lost = 3

abbrev pub q_lengths : List QLength
q_lengths = integrity.NoInformation ∷ integrity.ConfirmedByDevice ∷ integrity.ConfirmedByDriver ∷ integrity.Lost ∷ []

unfoldable pub q_length_of : ℕ → Option QLength
q_length_of n = find (λ v. q_length_value v == n) q_lengths

-- M_LEVEL
abbrev pub m_level_value : MLevel → ℕ
m_level_value level.Level0 = 0
m_level_value level.Ntc = 1
m_level_value level.Level1 = 2
m_level_value level.Level2 = 3
m_level_value level.Level3 = 4
m_level_value level.Spare5 = 5
m_level_value level.Spare6 = 6
m_level_value level.Spare7 = 7

abbrev pub m_levels : List MLevel
m_levels =
    level.Level0 ∷ level.Ntc ∷ level.Level1 ∷ level.Level2 ∷ level.Level3 ∷ level.Spare5 ∷ level.Spare6 ∷ level.Spare7
    ∷ []

unfoldable pub m_level_of : ℕ → Option MLevel
m_level_of n = find (λ v. m_level_value v == n) m_levels

-- Q_STATUS of a SoM position report
abbrev pub q_status_value : QStatus → ℕ
q_status_value status.Invalid = 0
q_status_value status.Valid = 1
q_status_value status.Unknown = 2

abbrev pub q_statuses : List QStatus
q_statuses = status.Invalid ∷ status.Valid ∷ status.Unknown ∷ []

unfoldable pub q_status_of : ℕ → Option QStatus
q_status_of n = find (λ v. q_status_value v == n) q_statuses
