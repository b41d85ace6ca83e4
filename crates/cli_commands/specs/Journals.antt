-- The entries of journals, and the faults of journals as they are reported.
use Rattle.cli_commands.specs.declared.journal.Events.{Events}
use Rattle.cli_commands.specs.declared.line_file.LineFile.{LineFile}
use Rattle.cli_commands.specs.Rerunning.Causes.{AreSomeOf}
use Rattle.rbc_spec.specs.Line.{Line}
use Rattle.std.specs.declared.alloc.Global.{Global}
use Rattle.std.specs.List.{flat_map, starts_with}
use Rattle.std.specs.List.Sorted.{IsPermutation}
use Rattle.std.specs.Prelude.{◌++◌, ◌+◌, ◌==◌, ◌||◌, ◌≡◌, ◌≢◌, Bool, codes, Err, false, if◌then◌else◌, length, List}
use Rattle.std.specs.Prelude.{map, MatchOption, None, Ok, Option, Result, slice_get, Some, String, string_bytes, suc}
use Rattle.std.specs.Prelude.{take, true, Vec, zero, ℕ}
use Rattle.std.specs.Str.{IsUtf8}
use Rattle.text_journal.specs.declared.entry.Entry.{Entry}
use Rattle.text_journal.specs.declared.fault.JournalFault.{JournalFault}
use Rattle.text_journal.specs.declared.fault.JournalFault.TheVariants as journal
use Rattle.text_journal.specs.Journal.{Version}
use Rattle.text_journal.specs.Order.{AreInOrder, IsFirstFallen, stamps_of}
use Rattle.text_journal.specs.Reading.{Begins, noted_of}
use Rattle.text_journal.specs.Whole.{AreWhole}
use Rattle.text_script.specs.declared.status.fault.Fault.{Fault}
use Rattle.text_script.specs.declared.status.fault.Fault.TheVariants as fault
use Rattle.text_script.specs.Print.Rows.{name_at}
use Rattle.text_script.specs.rbc_centre.declared.fault.StepFault.TheVariants as step

-- the bytes of a journal that are read: its whole lines, or all bytes if it has no whole line
abbrev pub read_part : List ℕ → ℕ → List ℕ
read_part bytes zero = bytes
read_part bytes (suc n) = take (suc n) bytes

-- The bytes are a journal of centre c with these entries, in one of the versions. The journal may be cut short.
abbrev pub AreEntries : LineFile → ℕ → List ℕ → List Entry → Type 0
AreEntries given c bytes entries = (v : Version) × Begins v given.line c (string_bytes given.text) bytes entries

-- the bytes as a text have no entries
abbrev pub AreNone : LineFile → ℕ → List ℕ → Type 0
AreNone given c bytes = IsUtf8 bytes → (entries : List Entry) → AreEntries given c bytes entries → ⊥

-- The result of reading these bytes as a journal of centre c. It has the entries of the bytes. If it is refused, the
-- bytes have none, or memory ran out.
abbrev pub IsReading : LineFile → ℕ → List ℕ → Result (Vec Entry Global) JournalFault → Type 0
IsReading given c bytes (Ok read) =
    AreEntries given c bytes read.items
    × ((entries : List Entry) → AreEntries given c bytes entries → map noted_of read.items ≡ map noted_of entries)
IsReading given c bytes (Err why) = why ≢ journal.Memory → AreNone given c bytes

abbrev pub out_of_memory : Fault
out_of_memory = fault.Step step.Memory

-- The bytes are refused as a journal of centre c: as a text they have no entries whose stamps rise, or memory ran out.
abbrev pub IsRefused : LineFile → ℕ → List ℕ → Fault → Type 0
IsRefused given c bytes why =
    why ≢ out_of_memory → IsUtf8 bytes → (entries : List Entry) → AreEntries given c bytes entries
    → ¬ IsFirstFallen (stamps_of entries) None

-- the file of the journal of centre c in a folder
abbrev pub journal_name : Line → List ℕ → ℕ → List ℕ
journal_name line folder c = folder ++ (codes "/" ++ (name_at line c ++ codes ".journal"))

-- The entries of the journal of centre c in a folder, of bytes that its file may hold. Their stamps rise.
pub record IsJournal (MayHold : List ℕ → Option (List ℕ) → Type 0) (given : LineFile) (folder : List ℕ) (c : ℕ)
    (entries : List Entry) : Type 0 where
  pub bytes : List ℕ
  pub held : MayHold (journal_name given.line folder c) (Some bytes)
  pub count : ℕ
  pub whole : AreWhole bytes count
  pub read : AreEntries given c (read_part bytes count) entries
  pub rising : IsFirstFallen (stamps_of entries) None

-- each of these has the entries of the journal of its centre
abbrev pub AreOfCentres :
    (List ℕ → Option (List ℕ) → Type 0) → LineFile → List ℕ → List (Vec Entry Global) → Type 0
AreOfCentres MayHold given folder journals =
    (c : ℕ) (j : Vec Entry Global) → slice_get journals c ≡ Some j → IsJournal MayHold given folder c j.items

-- all entries of the journals of all centres in a folder, each once, in order
pub record AreAllEntries (MayHold : List ℕ → Option (List ℕ) → Type 0) (given : LineFile) (folder : List ℕ)
    (all : List Entry) : Type 0 where
  pub journals : List (Vec Entry Global)
  pub of_centres : AreOfCentres MayHold given folder journals
  pub each_centre : length journals ≡ length given.line.centres
  pub once : IsPermutation (flat_map (λ j. j.items) journals) all
  pub in_order : AreInOrder all

-- The events that are read of all entries: all of them. Or some are left out, and their number is known.
abbrev pub AreEventsOf : List Entry → Events → Type 0
AreEventsOf all events =
    MatchOption events.left_out (events.entries.items ≡ all)
    (λ n. AreSomeOf all events.entries.items × (length events.entries.items + n ≡ length all))

-- the bytes begin as a journal of version 1 or 2
abbrev pub is_of_known_version : List ℕ → Bool
is_of_known_version bytes =
    starts_with (λ a b. a == b) bytes (codes "journal 1 ") || starts_with (λ a b. a == b) bytes (codes "journal 2 ")

-- the fault of journals that do not fit together: the line of the journal with this name
abbrev pub IsUnfit : List ℕ → ℕ → Fault → Type 0
IsUnfit name row (fault.Unfit journal unfit_row) = (string_bytes journal ≡ name) × (unfit_row ≡ row)
IsUnfit name row other = ⊥

-- the reason why bytes that do not begin as a journal of a known version are not a journal
abbrev pub lack_of : List ℕ → List ℕ
lack_of bytes =
    if starts_with (λ a b. a == b) bytes (codes "journal ") then codes "it has another version than 1 and 2"
    else codes "it is not a journal"

-- The report on the journal of this name and of these bytes. A damaged line is named. Bytes that begin as a journal of
-- a known version are of another centre or line, and others are not a journal.
abbrev pub IsFaultOf : String Global → List ℕ → JournalFault → Fault → Type 0
IsFaultOf name bytes (journal.Damaged row) reported = reported ≡ fault.Damaged name row
IsFaultOf name bytes journal.Foreign (fault.Foreign named) = (named ≡ name) × (is_of_known_version bytes ≡ true)
IsFaultOf name bytes journal.Foreign (fault.NoJournal text) =
    (is_of_known_version bytes ≡ false) × (string_bytes text ≡ string_bytes name ++ (codes ": " ++ lack_of bytes))
IsFaultOf name bytes other reported = ⊥
