-- Crashes of the program that runs the centres of a line, and restarts from the journals. The journal of a centre has
-- the events of the first entries of its log, in order, without their outcomes. A crash may cut each journal at another
-- position. An entry is sent out if a part of its outcome has left its centre. A part is a message to a train, a reply
-- to the interlocking, or a frame to another centre.
use Rattle.std.specs.Prelude.{◌≡◌, ℕ, ◌≤◌, List, [], ◌∷◌, map, drop, All, AllPairs, Option, Ok}
use Rattle.rbc_spec.specs.Line.{Line, IsLine}
use Rattle.rbc_spec.specs.Centre.{Centre}
use Rattle.rbc_spec.specs.Step.{Event}
use Rattle.rbc_spec.specs.World.{World, new_world, world_run}
use Rattle.law_outside.specs.Outside.{IsSafeOutside, Spoken, nothing_seen, sees_all, spoken_of}
use Rattle.law_promises.specs.Arrival.Arrival.{IsSafeByWhatCame}
use Rattle.law_promises.specs.Arrival.Received.{AreReceived, nothing_known}
use Rattle.law_logs.specs.Logs.{LogEntry, AreLogs, IsFromLog, IsLegal, IsMerge, entries_of, happened, answered}
use Rattle.law_logs.specs.Beginnings.Beginnings.{cut, IsWrittenAfter}

-- the events of the first `count c` entries of the log of centre c
abbrev pub events_of : (ℕ → ℕ) → (ℕ → List LogEntry) → ℕ → List Event
events_of count logs c = map (λ e. e.event) (cut count logs c)

-- ## One crash

-- A crash. `logs` are the logs of the centres. No entry after the first `out c` of centre c was sent out. The journal
-- of centre c has the first `kept c` entries. `first_written`: each entry that was sent out is in its journal.
-- `framed`: each frame that an entry of a journal took was sent out by its sender.
pub record IsCrash (logs : ℕ → List LogEntry) (out kept : ℕ → ℕ) : Type 0 where
  pub first_written : (c : ℕ) → out c ≤ kept c
  pub framed : (c : ℕ) → All (λ e. IsFromLog (cut out logs) c e.event) (cut kept logs c)

-- The logs after a restart. `resumed`: first each centre takes the events of its journal again, in order. `framed`:
-- each frame that it takes after them is in its sender's log.
pub record IsRestart (logs : ℕ → List LogEntry) (kept : ℕ → ℕ) (again : ℕ → List LogEntry) : Type 0 where
  pub resumed : (c : ℕ) → events_of kept again c ≡ events_of kept logs c
  pub framed : (c : ℕ) → All (λ e. IsFromLog again c e.event) (drop (kept c) (again c))

-- ## Any number of crashes

-- A period of operation, from a start of the program to the next crash, or to the present. `logs` are the logs of the
-- centres. They begin with the entries of the journals from which the program began. No entry after the first `out c`
-- of centre c was sent out, in this period or earlier. At the end the journal of centre c has the first `kept c`
-- entries.
pub record Period : Type 0 where
  pub logs : ℕ → List LogEntry
  pub out : ℕ → ℕ
  pub kept : ℕ → ℕ

-- before the first period each log and each journal is empty
abbrev pub no_period : Period
no_period = record { logs = λ c. []; out = λ c. 0; kept = λ c. 0 }

-- One period follows another. `replays`: each log has the outcomes of the steps of its centre, from the initial state.
-- `resumed`: first each centre takes the events of its journal again, in order. `framed`: each frame that it takes
-- after them was sent out by its sender. `still_out`: an entry that was sent out before the crash counts as sent out.
pub record Follows (line : Line) (before now : Period) : Type 0 where
  pub replays : (ends : ℕ → Centre) × AreLogs line now.logs ends
  pub resumed : (c : ℕ) → events_of before.kept now.logs c ≡ events_of before.kept before.logs c
  pub framed : (c : ℕ) → All (λ e. IsFromLog (cut now.out now.logs) c e.event) (drop (before.kept c) (now.logs c))
  pub still_out : (c : ℕ) → before.out c ≤ now.out c

-- each entry that was sent out is in its journal
abbrev pub IsWrittenFirst : Period → Type 0
IsWrittenFirst p = (c : ℕ) → p.out c ≤ p.kept c

-- Periods in order, each begun from the journals of the one before it. The journals of each have all that was sent out.
abbrev pub ArePeriods : Line → Period → List Period → Type 0
ArePeriods line before [] = Unit {0}
ArePeriods line before (now ∷ later) = Follows line before now × IsWrittenFirst now × ArePeriods line now later

-- ## The claims

-- The entries are one run of the world from its initial state. `outside`: by all messages of that run no two trains may
-- run over one section, and none over a section that is not released. `received`: so it is by each part of the messages
-- that arrives at the trains.
pub record IsSafeRun (line : Line) (entries : List LogEntry) : Type 0 where
  pub last : World
  pub runs : world_run line (new_world line) (map happened entries) ≡ Ok (map answered entries, last)
  pub outside : IsSafeOutside line
      (sees_all line (map happened entries) (map spoken_of (map answered entries)) nothing_seen)
  pub received : (came : List (Option Spoken))
      → AreReceived nothing_known (map happened entries) (map spoken_of (map answered entries)) came
      → IsSafeByWhatCame line (sees_all line (map happened entries) came nothing_seen)

-- The entries of logs in an order in which the steps may have been made. The entries of each log keep their order, and
-- each frame is taken after the entry that sent it.
pub record IsOrder (logs : ℕ → List LogEntry) (entries : List LogEntry) : Type 0 where
  pub each : (c : ℕ) → entries_of c entries ≡ logs c
  pub sent_before : IsWrittenAfter [] entries

-- Each frame that was taken is in its sender's log. The merge of the logs by their stamps is a safe run. So are their
-- entries in each order in which the steps may have been made.
pub record AreSafe (line : Line) (logs : ℕ → List LogEntry) : Type 0 where
  pub legal : IsLegal logs
  pub merge : (merged : List LogEntry) → IsMerge logs merged → IsSafeRun line merged
  pub order : (entries : List LogEntry) → IsOrder logs entries → IsSafeRun line entries

-- The logs after one crash. `kept_again`: they begin with the entries of the journals, with the same outcomes.
-- `out_again`: so all entries that were sent out are there. `safe`: the logs keep the promise, with all messages before
-- the crash and after it. `journals`: so do the entries of the journals by themselves.
pub record LosesNothing (line : Line) (logs again : ℕ → List LogEntry) (out kept : ℕ → ℕ) : Type 0 where
  pub kept_again : (c : ℕ) → cut kept again c ≡ cut kept logs c
  pub out_again : (c : ℕ) → cut out again c ≡ cut out logs c
  pub safe : AreSafe line again
  pub journals : AreSafe line (cut kept logs)

abbrev pub CrashTheorem : Type 0
CrashTheorem = (line : Line) (logs again : ℕ → List LogEntry) (ends stops : ℕ → Centre) (out kept : ℕ → ℕ)
    → IsLine line → AreLogs line logs ends → IsCrash logs out kept → AreLogs line again stops
    → IsRestart logs kept again
    → LosesNothing line logs again out kept

-- the logs of the later period begin with the entries that the earlier one had sent out, with the same outcomes
abbrev pub KeepsSentOut : Period → Period → Type 0
KeepsSentOut before later = (c : ℕ) → cut before.out later.logs c ≡ cut before.out before.logs c

-- Three parts of the logs of a period keep the promise: the entries that were sent out, those of the journals, and all.
pub record IsSafePeriod (line : Line) (p : Period) : Type 0 where
  pub out : AreSafe line (cut p.out p.logs)
  pub journals : AreSafe line (cut p.kept p.logs)
  pub logs : AreSafe line p.logs

-- for any number of crashes
abbrev pub CrashesTheorem : Type 0
CrashesTheorem = (line : Line) (periods : List Period) → IsLine line → ArePeriods line no_period periods
    → AllPairs KeepsSentOut periods × All (IsSafePeriod line) periods
