-- The sections of SUBSET-026 that define fields; `profile` for names and frames of this project.
use Rattle.std.specs.Prelude.{[], ◌||◌, ◌∷◌, Bool, codes, if◌then◌else◌, List, ℕ}
use Rattle.std.specs.Str.{bytes_eq}
use Rattle.text_fields.specs.declared.kind.Kind.{Kind}
use Rattle.text_fields.specs.declared.kind.Kind.TheVariants as kind
use Rattle.text_fields.specs.declared.messages.Side.{Side}
use Rattle.text_fields.specs.declared.messages.Side.TheVariants.{Centre, Train}
use Rattle.text_fields.specs.Walks.{side_of}

-- the variable of this name
abbrev pub section_of : List ℕ → List ℕ
section_of name =
    if bytes_eq name (codes "END_SPEED") || bytes_eq name (codes "END_TIME") then codes "profile" else codes "7.5.1"

-- the messages of a sender, and their packets
abbrev pub messages_section : Side → List ℕ
messages_section Train = codes "8.6"
messages_section Centre = codes "8.7"

abbrev pub packets_section : Side → List ℕ
packets_section Train = codes "7.4.3"
packets_section Centre = codes "7.4.2"

-- the sender of bytes: a train if they begin with an NID_MESSAGE of 128 or more
abbrev pub sender_of : List ℕ → Side
sender_of [] = Centre
sender_of (number ∷ rest) = side_of number

-- a variable in a message or in a frame; bits without a meaning have none
abbrev pub own_section : Bool → List ℕ → List ℕ
own_section is_frame name =
    if bytes_eq name (codes "bits") then codes "" else if is_frame then codes "profile" else section_of name

-- a field in a message of this sender, or in a frame; filling bits have none
abbrev pub section_in : Side → Bool → Kind → List ℕ → List ℕ
section_in side is_frame kind.Message name = messages_section side
section_in side is_frame kind.Packet name = packets_section side
section_in side is_frame kind.Filling name = codes ""
section_in side is_frame other name = own_section is_frame name
