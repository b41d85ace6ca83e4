-- The variables of messages whose meaning depends on their value.
use Rattle.std.specs.Prelude.{◌*◌, ◌-◌, ◌==◌, ◌^◌, Bool, codes, if◌then◌else◌, List, min, nat_lt, ℕ}
use Rattle.rbc_vars.specs.declared.scale.QScale.{QScale}
use Rattle.rbc_vars.specs.declared.scale.QScale.TheVariants.{Decametre, Decimetre, Metre}
use Rattle.text_words.specs.Fields.{Bits, Count, Decimetres, meant, Sense, Variable}

-- V_TRAIN, in steps of 5 km/h; values above 600 km/h are spare
abbrev pub speed : ℕ → Variable
speed value =
    if nat_lt 120 value then meant (codes "V_TRAIN") value (codes "spare")
    else record { name = codes "V_TRAIN"; value = value; sense = Count (5 * value) (codes "km/h") }

-- a number of units of Q_SCALE
abbrev pub in_units : QScale → ℕ → Sense
in_units Decimetre value = Decimetres value
in_units Metre value = Count value (codes "m")
in_units Decametre value = Count (min (value * 10) (2 ^ 64 - 1)) (codes "m")

-- a distance or a doubt, in the unit of Q_SCALE; 32 767 is unknown
abbrev pub distance : List ℕ → ℕ → QScale → Variable
distance name value scale =
    if value == 32767 then meant name value (codes "unknown")
    else record { name = name; value = value; sense = in_units scale value }

-- Q_MARQSTREASON: one bit for each reason
abbrev pub reasons_given : ℕ → Variable
reasons_given value = record { name = codes "Q_MARQSTREASON"; value = value; sense = Bits 5 }

-- the greatest T_TRAIN is unknown
abbrev pub is_unknown_time : ℕ → Bool
is_unknown_time value = value == 4294967295

-- T_TRAIN of a request that is answered
abbrev pub request_time : ℕ → Variable
request_time value =
    if is_unknown_time value then meant (codes "T_TRAIN") value (codes "unknown")
    else meant (codes "T_TRAIN") value (codes "of the request")

-- T_TRAIN of acknowledged train data, in units of 10 ms
abbrev pub data_time : ℕ → Variable
data_time value =
    if is_unknown_time value then meant (codes "T_TRAIN") value (codes "unknown")
    else record {
      name = codes "T_TRAIN";
      value = value;
      sense = Count (10 * value) (codes "ms on board, of the train data");
    }
