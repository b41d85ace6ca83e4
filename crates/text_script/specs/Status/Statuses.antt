-- The exit statuses of the program.
use Rattle.std.specs.Prelude.{◌≡◌, ◌⊎◌, Err, Ok, Result, ℕ}
use Rattle.text_script.specs.declared.status.fault.Fault.{Fault}
use Rattle.text_script.specs.declared.status.fault.Fault.TheVariants.{CannotRead, Damaged, Differs, Foreign, Line}
use Rattle.text_script.specs.declared.status.fault.Fault.TheVariants.{Message, NoEvents, NoJournal, NotHexadecimal}
use Rattle.text_script.specs.declared.status.fault.Fault.TheVariants.{NoTrain, Script, Socket, Step, Unfit, Usage}
use Rattle.text_script.specs.declared.status.fault.Fault.TheVariants.{Words, Write}

-- the exit status of a fault
abbrev pub status_of : Fault → ℕ
status_of Differs = 1
status_of Words = 2
status_of (Usage usage) = 2
status_of (NotHexadecimal word) = 2
status_of (NoTrain engine) = 2
status_of (NoEvents count) = 2
status_of (CannotRead name) = 3
status_of (Script row) = 3
status_of (NoJournal name) = 3
status_of (Foreign name) = 3
status_of (Damaged journal row) = 3
status_of (Unfit journal row) = 3
status_of (Line why) = 4
status_of (Step why) = 5
status_of Socket = 6
status_of Write = 6
status_of (Message why) = 7

-- the fault was reported, or writing the report was refused
abbrev pub IsReported : Fault → ℕ → Type 0
IsReported fault status = (status ≡ status_of fault) ⊎ (status ≡ 6)

-- a command succeeded, or its fault was reported
abbrev pub Ends : Result (Unit {0}) Fault → ℕ → Type 0
Ends (Ok done) status = status ≡ 0
Ends (Err fault) status = IsReported fault status

-- a status that some command ends with
abbrev pub IsStatus : ℕ → Type 0
IsStatus status = (done : Result (Unit {0}) Fault) × Ends done status
