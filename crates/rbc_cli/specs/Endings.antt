-- The exit statuses of the program at the end of a connection, and of lines for the interlocking.
use Rattle.std.specs.Prelude.{◌≡◌, ◌⊎◌, Err, Ok, Result, ℕ}
use Rattle.cli_drive.specs.Answers.{status_of as status_of_verdict}
use Rattle.cli_drive.specs.declared.telling.LinesFault.TheVariants.{Memory as LinesMemory}
use Rattle.cli_drive.specs.declared.telling.Verdict.{Verdict}
use Rattle.rbc_cli.specs.declared.tell.TellFault.{TellFault}
use Rattle.rbc_cli.specs.declared.tell.TellFault.TheVariants.{Lines, Port, Run}
use Rattle.text_script.specs.Status.Statuses.{IsReported}
use Rattle.cli_drive.specs.declared.fault.DriveFault.{DriveFault}
use Rattle.cli_drive.specs.declared.fault.DriveFault.TheVariants.{Form, Memory, Socket, Write}

-- 3 for a line of no form, 5 if memory ran out, and 6 for a connection or a writer that failed
abbrev pub drive_status : DriveFault → ℕ
drive_status Memory = 5
drive_status (Form row) = 3
drive_status Socket = 6
drive_status Write = 6

-- The lines have a verdict, or the fault was reported. The status is 2 for lines that are not sent, and for a number
-- that is not a port. Writing the report may be refused: 6.
abbrev pub IsTold : Result Verdict TellFault → ℕ → Type 0
IsTold (Ok verdict) status = status ≡ status_of_verdict verdict
IsTold (Err (Run fault)) status = IsReported fault status
IsTold (Err (Lines LinesMemory)) status = (status ≡ 5) ⊎ (status ≡ 6)
IsTold (Err (Lines fault)) status = (status ≡ 2) ⊎ (status ≡ 6)
IsTold (Err (Port number)) status = (status ≡ 2) ⊎ (status ≡ 6)
