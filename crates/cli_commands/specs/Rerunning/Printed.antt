-- The print of entries that are one run of a line.
use Rattle.std.specs.Io.KnownBytes.{Appends}
use Rattle.std.specs.Prelude.{◌≡◌, Err, List, map, Ok, Option, Result, ℕ}
use Rattle.cli_commands.specs.declared.rerunning.fault.RerunFault.{RerunFault}
use Rattle.cli_commands.specs.declared.rerunning.fault.RerunFault.TheVariants.{Refused, Unfit, Untold}
use Rattle.cli_commands.specs.Rerunning.Rerun.{IsFirstUnfit, IsRerun}
use Rattle.cli_commands.specs.Running.Printed.{IsPrint}
use Rattle.rbc_spec.specs.Line.{Line}
use Rattle.rbc_spec.specs.World.{World}
use Rattle.text_journal.specs.declared.entry.Entry.{Entry}
use Rattle.text_script.specs.declared.script.Entry.{Entry as Asked}
use Rattle.text_script.specs.declared.script.Entry.TheVariants.{Event}

-- the script entry for the event of an entry
abbrev pub asks : Entry → Asked
asks e = Event e.event

-- the appended text is the print of a script of these events
abbrev pub PrintsRun : Line → List Entry → Option (List ℕ) → Option (List ℕ) → Type 0
PrintsRun line es before after = (text : List ℕ) × IsPrint line (map asks es) text × Appends before after text

-- If all is written, the entries are a run of the line, and the text is the print of their events. If an entry does
-- not fit, nothing is written. Nothing is claimed if a step was refused, for example because memory ran out, or a
-- write was.
abbrev pub Reprints : Line → List Entry → Result (Unit {0}) RerunFault → Option (List ℕ) → Option (List ℕ) → Type 0
Reprints line es (Ok done) before after = ((last : World) × IsRerun line es last) × PrintsRun line es before after
Reprints line es (Err (Unfit place)) before after = IsFirstUnfit line es place × (after ≡ before)
Reprints line es (Err (Refused fault)) before after = Unit {0}
Reprints line es (Err (Untold why)) before after = Unit {0}
