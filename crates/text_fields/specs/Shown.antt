-- The bits of shown fields.
use Rattle.std.specs.Prelude.{ℕ, ◌^◌, ◌<◌, Bool, List, ◌++◌, Option, Some}
use Rattle.std.specs.List.{flat_map}
use Rattle.rbc_bits.specs.Bits.{field}
use Rattle.text_fields.specs.declared.kind.Kind.{Kind}
use Rattle.text_fields.specs.declared.kind.Kind.TheVariants.{Packet}
use Rattle.text_fields.specs.declared.shown.Shown.{Shown}

-- the bits of one shown field: the binary digits of its value
abbrev pub bits_of_one : Shown → List Bool
bits_of_one shown = field shown.width shown.value

-- the bits of shown fields, put together in their order
abbrev pub bits_shown : List Shown → List Bool
bits_shown list = flat_map bits_of_one list

-- its value has room in its width
abbrev pub Fits : Shown → Type 0
Fits shown = shown.value < 2 ^ shown.width

-- the bits that are shown, and after them those that are not shown yet
abbrev pub all_bits : List Shown × List Bool → List Bool
all_bits found = bits_shown found.0 ++ found.1

-- the packet of a field with this value: NID_PACKET begins a packet
abbrev pub packet_of : Kind → Option ℕ → ℕ → Option ℕ
packet_of Packet packet value = Some value
packet_of other packet value = packet
