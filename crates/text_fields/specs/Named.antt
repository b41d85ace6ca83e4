-- Fields as a reader of the standard sees them: a name, a width in bits, and a value.
use Rattle.std.specs.Prelude.{ℕ, ◌^◌, ◌<◌, ◌≤◌, List, [], ◌∷◌, map}
use Rattle.rbc_packets.specs.Layout.{Field}
use Rattle.text_fields.specs.declared.shown.Shown.{Shown}

pub record Named : Type 0 where
  pub name : List ℕ
  -- how many bits it has, and its value
  pub field : Field

-- a field that is shown
abbrev pub named : Shown → Named
named shown = record { name = shown.field.name.now; field = (shown.width, shown.value) }

-- all that are shown
abbrev pub all_named : List Shown → List Named
all_named list = map named list

-- the widths and values of named fields
abbrev pub fields_in : List Named → List Field
fields_in list = map (λ f. f.field) list

-- fields with these names, in this order
abbrev pub with_names : List (List ℕ) → List Field → List Named
with_names names [] = []
with_names [] (f ∷ fields) = record { name = []; field = f } ∷ with_names [] fields
with_names (n ∷ names) (f ∷ fields) = record { name = n; field = f } ∷ with_names names fields

-- the value has room in its bits, which are shown at once
abbrev pub NamedFits : Named → Type 0
NamedFits f = (f.field.0 ≤ 64) × (f.field.1 < 2 ^ f.field.0)
