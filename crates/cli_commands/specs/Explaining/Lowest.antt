-- The findings in a line file, compared with the faults that apply to it.
use Rattle.std.specs.Prelude.{List, MatchOption, Option, option_map, slice_get, ℕ}
use Rattle.cli_commands.specs.declared.inspecting.finding.Finding.{Finding}
use Rattle.cli_commands.specs.Inspecting.Findings.{flaw_fault}
use Rattle.rbc_line.specs.declared.fault.LineFault.{LineFault}
use Rattle.rbc_line.specs.Faults.{AppliesToTables, IsLowest, number_of}
use Rattle.toml.specs.Data.{Members}

-- the number of a finding's fault
abbrev pub fault_number : Finding → ℕ
fault_number finding = number_of (flaw_fault finding.flaw)

-- the fault of the first finding
abbrev pub first_fault : List Finding → Option LineFault
first_fault findings = option_map (λ finding. flaw_fault finding.flaw) (slice_get findings 0)

-- nothing is found if no fault applies to the tables; otherwise the first finding is a case of the lowest fault
abbrev pub Explains : Members → List Finding → Type 0
Explains ms findings =
    MatchOption (first_fault findings) ((fault : LineFault) → ¬ AppliesToTables ms fault)
    (IsLowest (AppliesToTables ms))
