-- The result of `explain` for a faulty line file, and for a script.
use Rattle.std.specs.Prelude.{◌≡◌, ◌⊎◌, Err, None, Ok, Option, Result, Some, ℕ}
use Rattle.rbc_line.specs.declared.fault.LineFault.{LineFault}
use Rattle.rbc_line.specs.declared.fault.LineFault.TheVariants.{Memory}
use Rattle.text_script.specs.declared.status.fault.Fault.{Fault}
use Rattle.text_script.specs.declared.status.fault.Fault.TheVariants.{Line, Script, Write}

-- It is never a success: it is the fault of the file, memory ran out, or the writer refused a write.
abbrev pub Explains : LineFault → Result (Unit {0}) Fault → Type 0
Explains fault (Err (Line why)) = (why ≡ fault) ⊎ (why ≡ Memory)
Explains fault (Err Write) = Unit {0}
Explains fault result = ⊥

-- The result for a script, by its first faulty line.
abbrev pub script_result : Option ℕ → Result (Unit {0}) Fault
script_result None = Ok tt
script_result (Some row) = Err (Script row)
