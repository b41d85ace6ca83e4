-- The print of a script that is played on a line.
use Rattle.std.specs.Io.KnownBytes.{Appends}
use Rattle.std.specs.Prelude.{[], ◌++◌, ◌≡◌, codes, Err, List, Ok, Option, Result, ℕ}
use Rattle.rbc_spec.specs.Line.{Line}
use Rattle.rbc_spec.specs.World.{centre_of, new_world, World}
use Rattle.text_script.specs.declared.play.PlayFault.{PlayFault}
use Rattle.text_script.specs.declared.play.PlayFault.TheVariants.{Refused, Untold}
use Rattle.text_script.specs.declared.script.Entry.{Entry}
use Rattle.text_script.specs.Played.{Answering, Coming, IsPlayed, IsStopped, Showing, Telling}
use Rattle.text_script.specs.Print.Answers.{IsAnswerPrint}
use Rattle.text_script.specs.Print.Rows.{event_row}
use Rattle.text_script.specs.Print.Shown.{line_text}
use Rattle.text_script.specs.rbc_centre.declared.fault.StepFault.{StepFault}
use Rattle.text_script.specs.rbc_world.Views.{event_of}

-- the lines of one report, for the centres of this line
abbrev pub AreRows : Line → Telling → List ℕ → Type 0
AreRows line (Showing l w) text = text ≡ codes "> show\n" ++ line_text l w
AreRows line (Coming event) text = text ≡ event_row line event
AreRows line (Answering event answer) text = IsAnswerPrint line (centre_of (event_of event)) answer text

-- a printer for this line appends these bytes for a report
abbrev pub IsTold : Line → Telling → Option (List ℕ) → Option (List ℕ) → Type 0
IsTold line (Showing l w) before after = line ≡ l → Appends before after (codes "> show\n" ++ line_text l w)
IsTold line (Coming event) before after = Appends before after (event_row line event)
IsTold line (Answering event answer) before after =
    (rows : List ℕ) × IsAnswerPrint line (centre_of (event_of event)) answer rows × Appends before after rows

-- the lines follow the earlier print
abbrev pub Adds : Line → List ℕ → Telling → List ℕ → Type 0
Adds line before telling after = (rows : List ℕ) × AreRows line telling rows × (after ≡ before ++ rows)

-- The print of a script: the lines of each of its entries in order, with the answers of the centres from the line's
-- beginning; and then the final state of the line
abbrev pub IsPrint : Line → List Entry → List ℕ → Type 0
IsPrint line entries text =
    (last : World) × (rows : List ℕ) × IsPlayed (Adds line) line (new_world line) [] entries last rows
    × (text ≡ rows ++ line_text line last)

-- The print of a script that stops at an event with a refused step: the lines of all entries before it, and its own
-- line
abbrev pub IsPrintUntil : Line → List Entry → StepFault → List ℕ → Type 0
IsPrintUntil line entries fault text =
    (last : World) × IsStopped (Adds line) line (new_world line) [] entries fault last text

-- these bytes are appended to the writer's; nothing is claimed if it refused a write, or memory ran out for the print
abbrev pub LeavesPrint : {F : Type 0} → Line → List Entry → Result (Unit {0}) (PlayFault F)
    → Option (List ℕ) → Option (List ℕ) → Type 0
LeavesPrint line entries (Ok done) before after =
    (text : List ℕ) × IsPrint line entries text × Appends before after text
LeavesPrint line entries (Err (Refused fault)) before after =
    (text : List ℕ) × IsPrintUntil line entries fault text × Appends before after text
LeavesPrint line entries (Err (Untold why)) before after = Unit {0}

-- the same holds for a printer, and it still has the same writer
abbrev pub PrintsAll : {F N : Type 0} → Line → List Entry → Result (Unit {0}) (PlayFault F) → N → N
    → Option (List ℕ) → Option (List ℕ) → Type 0
PrintsAll {F = F} line entries (Ok done) old new before after =
    (new ≡ old) × LeavesPrint {F = F} line entries (Ok done) before after
PrintsAll {F = F} line entries (Err (Refused fault)) old new before after =
    (new ≡ old) × LeavesPrint {F = F} line entries (Err (Refused fault)) before after
PrintsAll line entries (Err (Untold why)) old new before after = Unit {0}
