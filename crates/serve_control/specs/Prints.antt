-- The print of the merged entries of the centres' logs.
use Rattle.std.specs.Prelude.{[], ◌++◌, ◌∷◌, ◌≡◌, List, Ok, ℕ}
use Rattle.law_logs.specs.Logs.{happened}
use Rattle.rbc_log.specs.declared.entry.Entry.{Entry}
use Rattle.rbc_log.specs.Entries.{entry_of}
use Rattle.rbc_log.specs.Log.{LogValue}
use Rattle.rbc_log.specs.Merge.{IsMerged, MakesOneRun}
use Rattle.rbc_spec.specs.Line.{Line}
use Rattle.rbc_spec.specs.World.{Answer, new_world, World, world_step}
use Rattle.serve_control.specs.Events.{IsCommitted}
use Rattle.text_script.specs.Print.Answers.{IsOutcomePrint}
use Rattle.text_script.specs.Print.Rows.{event_row, name_at}
use Rattle.text_script.specs.Print.Shown.{line_text}
use Rattle.text_script.specs.rbc_centre.Views.{outcome_of}
use Rattle.text_script.specs.rbc_world.declared.event.WorldEvent.{WorldEvent}

-- the lines of an entry: its event as its centre received it, and its outcome as the log has it
abbrev pub IsEntryPrint : Line → Entry → List ℕ → Type 0
IsEntryPrint line e text =
    (event : WorldEvent) × (rows : List ℕ) × IsCommitted e.centre e.event event
    × IsOutcomePrint line (name_at line e.centre) (outcome_of e.outcome) rows × (text ≡ event_row line event ++ rows)

-- the lines of entries in order; their events take the centres from state w to state v, and none is refused
abbrev pub ArePrinted : Line → World → List Entry → World → List ℕ → Type 0
ArePrinted line w [] v text = (v ≡ w) × (text ≡ [])
ArePrinted line w (e ∷ es) v text =
    (answer : Answer) × (x : World) × (rows others : List ℕ)
    × (world_step line w (happened (entry_of e)) ≡ Ok (answer, x)) × IsEntryPrint line e rows
    × ArePrinted line x es v others × (text ≡ rows ++ others)

-- the lines of all entries, from the first event of the line on, and then the final state of the line
abbrev pub IsPrintOfEntries : Line → List Entry → List ℕ → Type 0
IsPrintOfEntries line entries text =
    (last : World) × (rows : List ℕ) × ArePrinted line (new_world line) entries last rows
    × (text ≡ rows ++ line_text line last)

-- the print of centres' logs: their entries, merged, and one run if each delivered frame is in its sender's log
pub record IsPrintOfLogs (line : Line) (logs : List LogValue) (text : List ℕ) : Type 0 where
  pub entries : List Entry
  pub merged : IsMerged logs entries
  pub run : MakesOneRun logs entries
  pub print : IsPrintOfEntries line entries text
