-- The values of a table by their types.
use Rattle.std.proofs.Common.{[], ◌++◌, ◌∙◌, ◌≡◌, ap, append-nil, append_assoc, bytes_eq, false, if◌then◌else◌, List}
use Rattle.std.proofs.Common.{MatchOption, None, Option, option_and_then, Some, sym, true, ℕ}
use Rattle.toml.specs.Data.{Data, get_member, Members, type_name}
use Rattle.cli_commands.specs.declared.inspecting.finding.Finding.{Finding}
use Rattle.cli_commands.specs.declared.inspecting.finding.Place.{Place}
use Rattle.cli_commands.specs.declared.inspecting.inspection.Inspection.{Inspection}
use Rattle.cli_commands.specs.Inspecting.Notes.{Adds, AddsLack, Grows, value_at}

-- the value, if its type has the name
abbrev typed : List ℕ → Data → Option Data
typed wanted value = if bytes_eq (type_name value) wanted then Some value else None

-- the value at a key has the type
pub value_found :
    (wanted key name : List ℕ) (table : Members) (value : Data) → Some value ≡ get_member key table
    → name ≡ type_name value → bytes_eq name wanted ≡ true → Some value ≡ value_at wanted key table
value_found wanted key name table value found named same =
    sym (ap (λ b. if b then Some value else None) (ap (λ n. bytes_eq n wanted) (sym named) ∙ same))
    ∙ ap (λ at. option_and_then (typed wanted) at) found

-- the value at a key has another type
pub value_other :
    (wanted key name : List ℕ) (table : Members) (value : Data) → Some value ≡ get_member key table
    → name ≡ type_name value → bytes_eq name wanted ≡ false → None ≡ value_at wanted key table
value_other wanted key name table value found named differs =
    sym (ap (λ b. if b then Some value else None) (ap (λ n. bytes_eq n wanted) (sym named) ∙ differs))
    ∙ ap (λ at. option_and_then (typed wanted) at) found

-- no value is at a key
pub value_missing : (wanted key : List ℕ) (table : Members) → None ≡ get_member key table
    → None ≡ value_at wanted key table
value_missing wanted key table none = ap (λ at. option_and_then (typed wanted) at) none

-- no finding is added
pub grows_none : (a b : Inspection) → b.findings.items ≡ a.findings.items → Grows a b
grows_none a b same = ([], same ∙ sym (append-nil a.findings.items))

-- these findings are added
pub grows_by : (a b : Inspection) (more : List Finding) → Adds a b more → Grows a b
grows_by a b more adds = (more, adds)

-- a required value, or its lack
pub grows_found : {A : Type 0} (found : Option A) (a b : Inspection) (at : Place) (key wanted : List ℕ)
    (more : A → List Finding) → MatchOption found (AddsLack a b at key wanted) (λ x. Adds a b (more x)) → Grows a b
grows_found None a b at key wanted more (why, is, adds) = (_, adds)
grows_found (Some x) a b at key wanted more adds = (_, adds)

-- further findings
pub grows_then : (a b c : Inspection) → Grows a b → Grows b c → Grows a c
grows_then a b c (first, ab) (next, bc) =
    (first ++ next, bc ∙ ap (λ xs. xs ++ next) ab ∙ append_assoc a.findings.items first next)

pub ruleset grown = (grows_none, grows_by, grows_found, grows_then)
