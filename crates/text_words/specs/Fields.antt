-- The fields of a message as they are shown: names, values and meanings, with all words as bytes.
use Rattle.std.specs.Prelude.{[], ◌%◌, ◌++◌, ◌/◌, ◌==◌, ◌∷◌, ◌≡◌, Bool, codes, false, if◌then◌else◌, List, map}
use Rattle.std.specs.Prelude.{nat_le, None, Option, Some, unwrap_or, ℕ}
use Rattle.text_words.specs.declared.field.Field.{Field}
use Rattle.text_words.specs.declared.field.Meaning.{Meaning}
use Rattle.text_words.specs.declared.field.Meaning.TheVariants as meaning
use Rattle.text_words.specs.declared.fields.Fields.{Fields}
use Rattle.text_words.specs.Meanings.{meaning_of, messages}

-- the meaning of a value
pub data Sense : Type 0 where
  Itself : Sense
  Words : (words : List ℕ) → Sense
  Message : (name : List ℕ) → (from : List ℕ) → Sense
  Count : (count : ℕ) → (unit : List ℕ) → Sense
  Decimetres : (count : ℕ) → Sense
  Group : (nid_c : ℕ) → (nid_bg : ℕ) → Sense
  Bits : (count : ℕ) → Sense

abbrev pub sense_of : Meaning → Sense
sense_of meaning.Number = Itself
sense_of (meaning.Words words) = Words words.now
sense_of (meaning.Message name from) = Message name.now from.now
sense_of (meaning.Count count unit) = Count count unit.now
sense_of (meaning.Decimetres count) = Decimetres count
sense_of (meaning.Group nid_c nid_bg) = Group nid_c nid_bg
sense_of (meaning.Bits count) = Bits count

-- a variable of a message: its name, its value, and the meaning of that value
pub record Variable : Type 0 where
  pub name : List ℕ
  pub value : ℕ
  pub sense : Sense

-- a variable, and whether it belongs to a packet
abbrev pub shown_of : Field → Bool × Variable
shown_of field =
    (field.is_in_packet, record { name = field.name.now; value = field.value; sense = sense_of field.meaning })

-- the fields so far
abbrev pub shown_in : Fields → List (Bool × Variable)
shown_in fields = map shown_of fields.list.items

-- a variable that belongs to a packet, or not
abbrev pub within : Bool → Variable → Bool × Variable
within is_in_packet variable = (is_in_packet, variable)

-- these variables follow the fields, and belong to a packet as the next ones do
abbrev pub Adds : Fields → Fields → List Variable → Type 0
Adds old new variables =
    (shown_in new ≡ shown_in old ++ map (within old.is_in_packet) variables)
    × (new.is_in_packet ≡ old.is_in_packet)

-- the variable of a number, of words, of a distance in metres, and of a count of bits
abbrev pub numbered : List ℕ → ℕ → Variable
numbered name value = record { name = name; value = value; sense = Itself }

abbrev pub meant : List ℕ → ℕ → List ℕ → Variable
meant name value text = record { name = name; value = value; sense = Words text }

abbrev pub counted : List ℕ → ℕ → List ℕ → Variable
counted name count unit = record { name = name; value = count; sense = Count count unit }

-- the variable of a balise group, by its NID_LRBG: NID_C in 10 bits, and NID_BG in 14
abbrev pub group_variable : ℕ → Variable
group_variable nid_lrbg =
    if nid_lrbg == 16777215 then meant (codes "NID_LRBG") nid_lrbg (codes "unknown")
    else record { name = codes "NID_LRBG"; value = nid_lrbg; sense = Group (nid_lrbg / 16384) (nid_lrbg % 16384) }

-- NID_MESSAGE of a message, its name, and its sender
abbrev pub message_variable : ℕ → List ℕ → Variable
message_variable number from = record {
  name = codes "NID_MESSAGE";
  value = number;
  sense = Message (unwrap_or (meaning_of messages number) (codes "no message that is read")) from;
}

-- the bytes are of a message of a train: NID_MESSAGE is 128 or more
abbrev pub is_of_train : List ℕ → Bool
is_of_train [] = false
is_of_train (number ∷ rest) = nat_le 128 number

-- NID_MESSAGE of bytes; none without a byte
abbrev pub message_of : List ℕ → Option Variable
message_of [] = None
message_of (number ∷ rest) =
    Some (message_variable number (if is_of_train (number ∷ rest) then codes "train" else codes "centre"))
