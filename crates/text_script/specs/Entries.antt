-- The requests of a script's entries in memory, and when they are the requests of a text.
use Rattle.std.specs.Prelude.{◌+◌, ◌≡◌, Err, filter, List, map, None, Ok, Option, option_map, position, Result, Some, ℕ}
use Rattle.std.specs.Prelude.{⊤}
use Rattle.rbc_spec.specs.Line.{Line}
use Rattle.rbc_world.specs.declared.event.WorldEvent.{WorldEvent}
use Rattle.rbc_world.specs.declared.event.WorldEvent.TheVariants.{Deliver, Set, Train, Unset}
use Rattle.text_script.specs.declared.script.Entry.{Entry}
use Rattle.text_script.specs.declared.script.Entry.TheVariants as entry
use Rattle.text_script.specs.declared.script.EntryFault.{EntryFault}
use Rattle.text_script.specs.declared.script.EntryFault.TheVariants as refused
use Rattle.text_script.specs.declared.script.ScriptFault.{ScriptFault}
use Rattle.text_script.specs.declared.script.ScriptFault.TheVariants.{Form, Memory}
use Rattle.text_script.specs.Script as script
use Rattle.text_script.specs.Script.{Asked, is_faulty, is_kept, row_asks, rows}

-- the result is the one of the format, unless memory ran out
abbrev pub Finds : {T A : Type 0} → (T → A) → Result T EntryFault → Option A → Type 0
Finds view (Ok x) found = found ≡ Some (view x)
Finds view (Err why) found = why ≡ refused.Form → found ≡ None

abbrev pub event_of : WorldEvent → Asked
event_of (Train centre bytes) = script.Train centre bytes.items
event_of (Set centre section) = script.Set centre section
event_of (Unset centre section) = script.Unset centre section
event_of (Deliver from to number) = script.Deliver from to number

-- the request of an entry
abbrev pub asked_of : Entry → Asked
asked_of entry.Show = script.Show
asked_of (entry.Event event) = event_of event

-- the entries are the requests of the lines that are not skipped, in order; each of these lines has a request
abbrev pub AreAsked : Line → List (List ℕ) → List Entry → Type 0
AreAsked line rows entries = map (λ e. Some (asked_of e)) entries ≡ map (row_asks line) (filter is_kept rows)

-- the fault names the first line that is not skipped and has no form, or memory ran out
abbrev pub IsFirstFault : Line → List (List ℕ) → ScriptFault → Type 0
IsFirstFault line rows Memory = ⊤
IsFirstFault line rows (Form n) = option_map (λ k. k + 1) (position (is_faulty line) rows) ≡ Some n
