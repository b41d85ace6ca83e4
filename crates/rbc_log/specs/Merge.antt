-- The merge of logs.
use Rattle.std.specs.Prelude.{◌≡◌, ◌<◌, ℕ, ◌==◌, List, [], length, map, Option, All}
use Rattle.std.specs.List.{find, flat_map}
use Rattle.std.specs.List.Sorted.{IsPermutation}
use Rattle.std.specs.Option.{option_map_or}
use Rattle.rbc_spec.specs.Line.{Line, IsLine, AreDistinct}
use Rattle.rbc_spec.specs.Centre.{Centre, beginning}
use Rattle.rbc_spec.specs.ReadOff.{IsLineRun}
use Rattle.rbc_spec.specs.Promises.{IsSound}
use Rattle.law_outside.specs.Outside.{IsSafeOutside, sees_all, nothing_seen, spoken_of}
use Rattle.law_logs.specs.Logs.{LogEntry, IsLegal, IsMerge, IsWorldRun, happened, answered}
use Rattle.rbc_centre.specs.States.{line_of, number_of, state_of}
use Rattle.rbc_log.specs.Entries.{entry_of, written_of}
use Rattle.rbc_log.specs.Log.{LogValue}
use Rattle.rbc_log.specs.declared.entry.Entry.{Entry}
use Rattle.rbc_log.specs.declared.merge_fault.MergeFault.{MergeFault}
use Rattle.rbc_log.specs.declared.merge_fault.MergeFault.TheVariants.{Memory, Twice, OtherLine}

-- ## Logs side by side

-- no two of them are of one centre
abbrev pub AreOfCentres : List LogValue → Type 0
AreOfCentres logs = AreDistinct (λ l. number_of l.core) logs

-- all of them are of this line
abbrev pub AreOfLine : Line → List LogValue → Type 0
AreOfLine line logs = All (λ l. line_of l.core ≡ line) logs

-- all of them are of one line
abbrev pub AreOfOneLine : List LogValue → Type 0
AreOfOneLine logs = (line : Line) × AreOfLine line logs

-- the log of centre c, if it has one
abbrev pub log_of : ℕ → List LogValue → Option LogValue
log_of c logs = find (λ l. number_of l.core == c) logs

-- the log of each centre; a centre that has none has taken nothing
abbrev pub logs_by : List LogValue → ℕ → List LogEntry
logs_by logs c = option_map_or (λ l. map entry_of l.entries) (log_of c logs) []

-- the last state of each centre; a centre without a log is in its initial state
abbrev pub ends_by : Line → List LogValue → ℕ → Centre
ends_by line logs c = option_map_or (λ l. state_of l.core) (log_of c logs) (beginning line c)

-- all their entries, log by log
abbrev pub all_entries : List LogValue → List Entry
all_entries logs = flat_map (λ l. l.entries) logs

-- ## The merged list

-- Each entry of each log is in the list once, with its whole event. The list is a merge of the logs: the entries of
-- each log keep their order. All are in the order of stamps, and for one stamp in that of centres.
pub record IsMerged (logs : List LogValue) (es : List Entry) : Type 0 where
  pub centres : AreOfCentres logs
  pub line : AreOfOneLine logs
  pub once : IsPermutation (map written_of (all_entries logs)) (map written_of es)
  pub merge : IsMerge (logs_by logs) (map entry_of es)

-- The entries are one run. The world, from its initial state, answers their events as the entries do, and each centre
-- ends as its log does. That is a run of the one line centre. The view from outside is safe, and the world is sound: no
-- section and no right is lost or in two places.
pub record IsOneRun (line : Line) (es : List LogEntry) (ends : ℕ → Centre) : Type 0 where
  pub world : IsWorldRun line es ends
  pub line_centre : IsLineRun line (map happened es) (map answered es) world.last
  pub outside : IsSafeOutside line (sees_all line (map happened es) (map spoken_of (map answered es)) nothing_seen)
  pub sound : IsSound line world.last

-- the entries are one run if each delivered frame is in its sender's log
abbrev pub MakesOneRun : List LogValue → List Entry → Type 0
MakesOneRun logs es =
    (line : Line) → IsLine line → AreOfLine line logs → IsLegal (logs_by logs)
    → IsOneRun line (map entry_of es) (ends_by line logs)

-- When each fault is returned. `Twice` is tested first, then `OtherLine`; memory is needed only if there is an entry.
abbrev pub IsMergeRefusal : List LogValue → MergeFault → Type 0
IsMergeRefusal logs Memory = AreOfCentres logs × AreOfOneLine logs × (0 < length (all_entries logs))
IsMergeRefusal logs Twice = AreOfCentres logs → ⊥
IsMergeRefusal logs OtherLine = AreOfCentres logs × (AreOfOneLine logs → ⊥)
