-- The effects of the commands that read a line file: the print of a run, and the contents of their files for it.
use Rattle.std.specs.Prelude.{◌≡◌, ◌≢◌, ◌⊎◌, Err, List, None, Ok, Option, Result, Some, ℕ}
use Rattle.cli_commands.specs.Running.Printed.{LeavesPrint}
use Rattle.cli_commands.specs.Running.Safe.{LeavesSafePrint}
use Rattle.rbc_line.specs.declared.fault.LineFault.TheVariants as bad
use Rattle.rbc_line.specs.Faults.{Applies, IsLowest, Names}
use Rattle.rbc_spec.specs.Line.{IsLine, Line}
use Rattle.text_script.specs.declared.play.PlayFault.TheVariants.{Refused}
use Rattle.text_script.specs.declared.script.Entry.{Entry}
use Rattle.text_script.specs.declared.script.ScriptFault.TheVariants.{Form}
use Rattle.text_script.specs.declared.status.fault.Fault.{Fault}
use Rattle.text_script.specs.declared.status.fault.Fault.TheVariants as fault
use Rattle.text_script.specs.declared.status.print_fault.PrintFault.{PrintFault}
use Rattle.text_script.specs.Entries.{AreAsked, IsFirstFault}
use Rattle.text_script.specs.rbc_centre.declared.fault.StepFault.TheVariants as refused
use Rattle.text_script.specs.Script.{rows}

-- For files, `gives name text` means that they may give this text, or none, for this name.

-- the files gave a line file without faults, and it names this line, which keeps the rules of a line
abbrev pub GivesLine : (List ℕ → Option (List ℕ) → Type 0) → List ℕ → Line → Type 0
GivesLine gives name line = ((text : List ℕ) × gives name (Some text) × Names text line) × IsLine line

-- no line was read: the files gave no text, or a text whose lowest fault is this one; nothing is claimed of a text
-- for which memory ran out
abbrev pub GivesNoLine : (List ℕ → Option (List ℕ) → Type 0) → List ℕ → Fault → Type 0
GivesNoLine gives name (fault.CannotRead other) = (other.now ≡ name) × gives name None
GivesNoLine gives name (fault.Line why) =
    (text : List ℕ) × gives name (Some text) × (why ≢ bad.Memory → IsLowest (Applies text) why)
GivesNoLine gives name other = ⊥

-- the files gave a script of the line, and these entries are its requests
abbrev pub GivesEntries : (List ℕ → Option (List ℕ) → Type 0) → Line → List ℕ → List Entry → Type 0
GivesEntries gives line name entries =
    (text : List ℕ) × gives name (Some text) × AreAsked line (rows text) entries

-- no script was read: the files gave no text, or a text whose first line without a form is this one; nothing is
-- claimed of a text for which memory ran out
abbrev pub GivesNoEntries : (List ℕ → Option (List ℕ) → Type 0) → Line → List ℕ → Fault → Type 0
GivesNoEntries gives line name (fault.CannotRead other) = (other.now ≡ name) × gives name None
GivesNoEntries gives line name (fault.Script row) =
    (text : List ℕ) × gives name (Some text) × IsFirstFault line (rows text) (Form row)
GivesNoEntries gives line name (fault.Step refused.Memory) = (text : List ℕ) × gives name (Some text)
GivesNoEntries gives line name other = ⊥

-- the files gave this line, and these entries of a script of it
abbrev pub GivesRun : (List ℕ → Option (List ℕ) → Type 0) → List ℕ → List ℕ → Line → List Entry → Type 0
GivesRun gives file script line entries = GivesLine gives file line × GivesEntries gives line script entries

-- the files gave no line, or a line and no script of it
abbrev pub GivesNoRun : (List ℕ → Option (List ℕ) → Type 0) → List ℕ → List ℕ → Fault → Type 0
GivesNoRun gives file script why =
    GivesNoLine gives file why ⊎ ((line : Line) × GivesLine gives file line × GivesNoEntries gives line script why)

-- The effect of `run`. It appends the print of the line and the given entries, complete or up to the event whose step
-- is refused. If the files gave no entries, nothing is written. Nothing is claimed of the output if the writer
-- refuses a write or memory runs out.
abbrev pub LeavesRun : (List ℕ → Option (List ℕ) → Type 0) → List ℕ → List ℕ → Result (Unit {0}) Fault
    → Option (List ℕ) → Option (List ℕ) → Type 0
LeavesRun gives file script (Ok done) before after =
    (line : Line) × (entries : List Entry) × GivesRun gives file script line entries
    × LeavesPrint {F = PrintFault} line entries (Ok done) before after
LeavesRun gives file script (Err (fault.Step refused.Memory)) before after = Unit {0}
LeavesRun gives file script (Err (fault.Step why)) before after =
    (line : Line) × (entries : List Entry) × GivesRun gives file script line entries
    × LeavesPrint {F = PrintFault} line entries (Err (Refused why)) before after
LeavesRun gives file script (Err fault.Write) before after =
    (line : Line) × (entries : List Entry) × GivesRun gives file script line entries
LeavesRun gives file script (Err why) before after = (after ≡ before) × GivesNoRun gives file script why

-- The promise of `run` to the world outside: the appended print is safe, complete or up to the event whose step is
-- refused
abbrev pub LeavesSafeRun : (List ℕ → Option (List ℕ) → Type 0) → List ℕ → Result (Unit {0}) Fault
    → Option (List ℕ) → Option (List ℕ) → Type 0
LeavesSafeRun gives file (Ok done) before after =
    (line : Line) × GivesLine gives file line × LeavesSafePrint {F = PrintFault} line (Ok done) before after
LeavesSafeRun gives file (Err (fault.Step refused.Memory)) before after = Unit {0}
LeavesSafeRun gives file (Err (fault.Step why)) before after =
    (line : Line) × GivesLine gives file line × LeavesSafePrint {F = PrintFault} line (Err (Refused why)) before after
LeavesSafeRun gives file (Err why) before after = Unit {0}

-- The effect of `check`: a line was given, or nothing is written. The printed text of a line is not specified.
abbrev pub LeavesCheck : (List ℕ → Option (List ℕ) → Type 0) → List ℕ → Result (Unit {0}) Fault
    → Option (List ℕ) → Option (List ℕ) → Type 0
LeavesCheck gives file (Ok done) before after = (line : Line) × GivesLine gives file line
LeavesCheck gives file (Err fault.Write) before after = (line : Line) × GivesLine gives file line
LeavesCheck gives file (Err why) before after = (after ≡ before) × GivesNoLine gives file why
