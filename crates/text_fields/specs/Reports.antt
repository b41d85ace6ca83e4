-- The reports of fields that are not written as bytes.
use Rattle.std.specs.Prelude.{◌≡◌, List, min, slice_get, unwrap_or, ℕ}
use Rattle.text_fields.specs.declared.encode.EncodeFault.{EncodeFault}
use Rattle.text_fields.specs.declared.encode.EncodeFault.TheVariants.{Line, Memory, Write}
use Rattle.text_fields.specs.declared.written.WrittenFault.{WrittenFault}
use Rattle.text_fields.specs.declared.written.WrittenFault.TheVariants as written

-- the place of the field of a fault, at most the last one; the first field if there are too many bytes
abbrev pub place_in : WrittenFault → ℕ → ℕ
place_in written.Memory last = 0
place_in (written.Room place) last = min place last
place_in written.Long last = 0
place_in (written.Other place shown) last = min place last

-- the report names the line of the field at this place, or memory ran out
abbrev pub Reports : List ℕ → ℕ → EncodeFault → Type 0
Reports rows place Memory = Unit {0}
Reports rows place Write = ⊥
Reports rows place (Line row words) = row ≡ unwrap_or (slice_get rows place) 0

-- the report names this line, or memory ran out
abbrev pub NamesRow : ℕ → EncodeFault → Type 0
NamesRow row Memory = Unit {0}
NamesRow row Write = ⊥
NamesRow row (Line other words) = other ≡ row
