-- The findings that a test of a line file notes.
use Rattle.cli_commands.specs.declared.inspecting.finding.Finding.{Finding}
use Rattle.cli_commands.specs.declared.inspecting.finding.Flaw.{Flaw}
use Rattle.cli_commands.specs.declared.inspecting.finding.Flaw.TheVariants as flaw
use Rattle.cli_commands.specs.declared.inspecting.finding.Place.{Place}
use Rattle.cli_commands.specs.declared.inspecting.inspection.Inspection.{Inspection}
use Rattle.std.specs.Prelude.{[], ◌++◌, ◌∷◌, ◌≡◌, bytes_eq, if◌then◌else◌, List, None, Option, option_and_then, Some, ℕ}
use Rattle.toml.specs.Data.{Data, get_member, Members, type_name}

-- these findings are added after the others
abbrev pub Adds : Inspection → Inspection → List Finding → Type 0
Adds old new more = new.findings.items ≡ old.findings.items ++ more

-- the value of a key, if its type has this name
abbrev pub value_at : List ℕ → List ℕ → Members → Option Data
value_at wanted key table =
    option_and_then (λ value. if bytes_eq (type_name value) wanted then Some value else None) (get_member key table)

-- the flaw of a required key without a value of this type
abbrev pub IsLack : List ℕ → List ℕ → Flaw → Type 0
IsLack key wanted (flaw.Missing name) = name.now ≡ key
IsLack key wanted (flaw.OtherType name type found) = (name.now ≡ key) × (type.now ≡ wanted)
IsLack key wanted other = ⊥

-- it is added that a required key has no value of this type
abbrev pub AddsLack : Inspection → Inspection → Place → List ℕ → List ℕ → Type 0
AddsLack old new place key wanted =
    (why : Flaw) × IsLack key wanted why × Adds old new (record { place = place; flaw = why } ∷ [])

-- no finding is taken back: those of before come first, in their order
abbrev pub Grows : Inspection → Inspection → Type 0
Grows old new = (more : List Finding) × Adds old new more
