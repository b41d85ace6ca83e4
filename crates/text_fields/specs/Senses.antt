-- Units and meanings of fields (SUBSET-026 7.5.1), by their names. END_SPEED, END_TIME, and the names of frames are of
-- the profile.
use Rattle.std.specs.List.{list_any}
use Rattle.std.specs.Prelude.{[], ◌%◌, ◌-◌, ◌/◌, ◌==◌, ◌^◌, ◌∷◌, ◌≡◌, ◌⊎◌, Bool, codes, false, if◌then◌else◌, List}
use Rattle.std.specs.Prelude.{nat_lt, true, ℕ}
use Rattle.std.specs.Str.{bytes_eq}
use denote.Ref.{Bor}
use Rattle.text_fields.specs.declared.kind.Kind.{Kind}
use Rattle.text_fields.specs.declared.kind.Kind.TheVariants as kind
use Rattle.text_fields.specs.declared.meaning.Meaning.{Meaning}
use Rattle.text_fields.specs.declared.meaning.MeaningForm.{MeaningForm}
use Rattle.text_fields.specs.declared.meaning.MeaningForm.TheVariants as form
use Rattle.text_fields.specs.declared.messages.Side.{Side}
use Rattle.text_fields.specs.declared.shown.Shown.{Shown}
use Rattle.text_fields.specs.Words.{directions, frames, lengths, levels, messages, modes, packets, scales, statuses}
use Rattle.text_fields.specs.Words.{words_or}

-- ## The table

-- the meaning of the values of a field
pub data Sense : Type 0 where
  Number : Sense  -- a number that means no more than itself
  Message : Sense  -- NID_MESSAGE
  Packet : Sense  -- NID_PACKET
  Count : (unit : List ℕ) → Sense  -- a count of this unit
  Words : (table : List (ℕ × List ℕ)) → Sense  -- each value has words
  Only : (value : ℕ) (words : List ℕ) → Sense  -- only this value has words
  TrainTime : Sense  -- T_TRAIN of a train's header: the time on board, in units of 10 ms
  CentreTime : Sense  -- T_TRAIN of a centre's header: the count of its messages to the train (profile)
  OtherTime : Sense  -- T_TRAIN of the message that is answered
  Group : Sense  -- a balise group: NID_C in 10 bits, and NID_BG in 14
  Distance : Sense  -- a length in the unit of Q_SCALE
  Decimetres : Sense  -- a length in decimetres, in two's complement of 32 bits (profile)
  Speed : Sense  -- a speed in steps of 5 km/h
  Bits : Sense  -- bits with a meaning each, or without any

-- Names, and the senses of their fields. T_TRAIN, Q_SCALE and NID_LRBG have one sense in each place.
abbrev pub senses : List (List (List ℕ) × List Sense)
senses =
    (codes "NID_MESSAGE" ∷ [], Message ∷ [])
    ∷ (codes "NID_PACKET" ∷ [], Packet ∷ [])
    ∷ (codes "L_MESSAGE" ∷ [], Count (codes "bytes") ∷ [])
    ∷ (codes "L_PACKET" ∷ [], Count (codes "bits") ∷ [])
    ∷ (codes "L_TRAININT" ∷ [], Count (codes "m") ∷ [])
    ∷ (codes "T_TRAIN" ∷ [], TrainTime ∷ CentreTime ∷ OtherTime ∷ Number ∷ [])
    ∷ (codes "NID_LRBG" ∷ [], Group ∷ Number ∷ [])
    ∷ (codes "Q_SCALE" ∷ [], Words scales ∷ Only 1 (codes "unit 1 m") ∷ [])
    ∷ (
      codes "D_LRBG" ∷ codes "L_DOUBTOVER" ∷ codes "L_DOUBTUNDER" ∷ codes "L_ENDSECTION" ∷ codes "D_RBCTR"
          ∷ codes "D_DP"
          ∷ codes "D_SECTIONTIMERSTOPLOC" ∷ codes "D_ENDTIMERSTARTLOC" ∷ codes "D_STARTOL" ∷ codes "D_OL" ∷ [],
      Distance ∷ [],
    )
    ∷ (codes "V_TRAIN" ∷ codes "V_RELEASEDP" ∷ codes "V_RELEASEOL" ∷ [], Speed ∷ [])
    ∷ (codes "Q_DIRLRBG" ∷ codes "Q_DLRBG" ∷ codes "Q_DIRTRAIN" ∷ [], Words directions ∷ [])
    ∷ (codes "Q_DIR" ∷ [], Only 1 (codes "nominal") ∷ [])
    ∷ (codes "Q_LENGTH" ∷ [], Words lengths ∷ [])
    ∷ (codes "Q_STATUS" ∷ [], Words statuses ∷ [])
    ∷ (codes "M_MODE" ∷ [], Words modes ∷ [])
    ∷ (codes "M_LEVEL" ∷ [], Words levels ∷ [])
    ∷ (codes "M_ACK" ∷ [], Only 0 (codes "no acknowledgement") ∷ [])
    ∷ (codes "M_VERSION" ∷ [], Only 32 (codes "version 2.0") ∷ [])
    ∷ (codes "Q_RBC" ∷ [], Only 0 (codes "terminate the session") ∷ [])
    ∷ (codes "NID_RADIO" ∷ [], Only 18446744073709551615 (codes "all ones") ∷ [])
    ∷ (codes "N_ITER" ∷ [], Only 0 (codes "one section") ∷ [])
    ∷ (codes "END_TIME" ∷ [], Only 1023 (codes "no limit") ∷ [])
    ∷ (
      codes "END_SPEED" ∷ codes "Q_SECTIONTIMER" ∷ codes "Q_ENDTIMER" ∷ codes "Q_DANGERPOINT" ∷ codes "Q_OVERLAP"
          ∷ codes "Q_SLEEPSESSION" ∷ [],
      Only 0 (codes "none") ∷ [],
    )
    ∷ (
      codes "NID_ENGINE" ∷ codes "NID_C" ∷ codes "NID_RBC" ∷ codes "NID_NTC" ∷ codes "T_SECTIONTIMER"
          ∷ codes "T_ENDTIMER" ∷ codes "T_OL" ∷ [],
      Number ∷ [],
    )
    ∷ (codes "Q_MARQSTREASON" ∷ codes "bits" ∷ codes "filling" ∷ [], Bits ∷ [])
    ∷ (codes "kind" ∷ [], Words frames ∷ [])
    ∷ (codes "front" ∷ codes "rear" ∷ [], Decimetres ∷ [])
    ∷ (
      codes "number" ∷ codes "stamp" ∷ codes "handover" ∷ codes "track" ∷ codes "section" ∷ codes "first section"
          ∷ codes "most sections" ∷ codes "count of sections" ∷ codes "flags" ∷ [],
      Number ∷ [],
    )
    ∷ []

abbrev pub senses_in : List (List (List ℕ) × List Sense) → List ℕ → List Sense
senses_in [] name = []
senses_in (row ∷ rows) name = if list_any (bytes_eq name) row.0 then row.1 else senses_in rows name

-- one of them
abbrev pub IsOneOf : List Sense → Sense → Type 0
IsOneOf [] sense = ⊥
IsOneOf (s ∷ others) sense = (sense ≡ s) ⊎ IsOneOf others sense

-- ## Senses of shown fields

-- the words of a table of the code
abbrev pub listed : List (ℕ × Bor (List ℕ)) → List (ℕ × List ℕ)
listed [] = []
listed (row ∷ rows) = (row.0, row.1.now) ∷ listed rows

abbrev pub sense_of : Kind → Sense
sense_of kind.Number = Number
sense_of kind.Message = Message
sense_of kind.Packet = Packet
sense_of (kind.Count unit) = Count unit.now
sense_of (kind.Words table) = Words (listed table.now)
sense_of (kind.Only value words) = Only value words.now
sense_of (kind.Range least most) = Number
sense_of kind.TrainTime = TrainTime
sense_of kind.CentreTime = CentreTime
sense_of kind.OtherTime = OtherTime
sense_of kind.Group = Group
sense_of kind.Distance = Distance
sense_of kind.Decimetres = Decimetres
sense_of kind.Speed = Speed
sense_of kind.Bits = Bits
sense_of kind.Filling = Bits

-- a field of this name has this kind by the table
abbrev pub IsKindOf : List ℕ → Kind → Type 0
IsKindOf name kind = IsOneOf (senses_in senses name) (sense_of kind)

-- the entries of a table of the code have their kinds
abbrev pub AreKinds : List (Bor (List ℕ) × ℕ × Kind) → Type 0
AreKinds [] = Unit {0}
AreKinds (row ∷ rows) = IsKindOf row.0.now row.2 × AreKinds rows

-- Q_SCALE after a field of this name and value: a packet begins without one
abbrev pub scale_after : List ℕ → ℕ → ℕ → ℕ
scale_after name value scale =
    if bytes_eq name (codes "NID_PACKET") then 0 else (if bytes_eq name (codes "Q_SCALE") then value else scale)

-- Each field has its kind by the table, and the Q_SCALE before it in its packet. `scale` is that before the first.
abbrev pub HaveSenses : ℕ → List Shown → Type 0
HaveSenses scale [] = Unit {0}
HaveSenses scale (f ∷ fields) =
    IsKindOf f.field.name.now f.field.kind × (f.scale ≡ scale)
    × HaveSenses (scale_after f.field.name.now f.value scale) fields

-- Q_SCALE after all of them
abbrev pub last_scale : ℕ → List Shown → ℕ
last_scale scale [] = scale
last_scale scale (f ∷ fields) = last_scale (scale_after f.field.name.now f.value scale) fields

-- ## Units

-- the unit of a length at this Q_SCALE
abbrev pub length_unit : ℕ → List ℕ
length_unit scale =
    if scale == 0 then codes "10 cm"
    else (if scale == 1 then codes "1 m" else (if scale == 2 then codes "10 m" else []))

abbrev pub unit_by : ℕ → Sense → List ℕ
unit_by scale (Count unit) = unit
unit_by scale TrainTime = codes "10 ms"
unit_by scale Speed = codes "5 km/h"
unit_by scale Decimetres = codes "10 cm"
unit_by scale Distance = length_unit scale
unit_by scale other = []

-- ## Meanings

abbrev pub told : Meaning → MeaningForm × List ℕ
told meaning = (meaning.form, meaning.words.now)

-- the greatest value of 15, 24 and 32 bits is unknown
abbrev pub or_unknown : Bool → MeaningForm × List ℕ → MeaningForm × List ℕ
or_unknown true known = (form.Words, codes "unknown")
or_unknown false known = known

-- a length at this Q_SCALE: in decimetres, metres, or tens of metres
abbrev pub length_by : ℕ → ℕ → MeaningForm × List ℕ
length_by scale value =
    if scale == 0 then (form.Decimetres false value, codes "m")
    else (if scale == 1 then (form.Amount value 1, codes "m")
    else (if scale == 2 then (form.Amount value 10, codes "m") else (form.Words, codes "of no unit")))

-- a length in two's complement
abbrev pub signed_length : ℕ → MeaningForm × List ℕ
signed_length value =
    if nat_lt value (2 ^ 31) then (form.Decimetres false value, codes "m")
    else (form.Decimetres true (2 ^ 32 - value), codes "m")

-- a speed, up to 600 km/h
abbrev pub speed_by : ℕ → MeaningForm × List ℕ
speed_by value = if nat_lt 120 value then (form.Words, codes "spare") else (form.Amount value 5, codes "km/h")

-- the meaning of a value: its form, and its words or its unit
abbrev pub meaning_by : Side → ℕ → ℕ → ℕ → Sense → MeaningForm × List ℕ
meaning_by side width scale value Number = (form.Itself, [])
meaning_by side width scale value Message = (form.Words, words_or messages value (codes "unknown message"))
meaning_by side width scale value Packet = (form.Words, words_or (packets side) value (codes "unknown packet"))
meaning_by side width scale value (Count unit) = (form.Amount value 1, unit)
meaning_by side width scale value (Words table) = (form.Words, words_or table value (codes "a value that is refused"))
meaning_by side width scale value (Only only words) =
    (form.Words, if value == only then words else codes "a value that is refused")
meaning_by side width scale value TrainTime =
    or_unknown (value == 4294967295) (form.Amount value 10, codes "ms on board")
meaning_by side width scale value CentreTime =
    or_unknown (value == 4294967295) (form.Words, codes "count of the centre's messages to the train")
meaning_by side width scale value OtherTime =
    or_unknown (value == 4294967295) (form.Words, codes "of the message that it answers")
meaning_by side width scale value Group =
    or_unknown (value == 16777215) (form.Group (value / 16384) (value % 16384), [])
meaning_by side width scale value Distance = or_unknown (value == 32767) (length_by scale value)
meaning_by side width scale value Decimetres = signed_length value
meaning_by side width scale value Speed = speed_by value
meaning_by side width scale value Bits = (form.Bits value width, [])
