-- The first parts of logs, of which each may be cut at any position.
use Rattle.std.specs.Prelude.{◌≡◌, ℕ, List, [], ◌∷◌, ◌++◌, map, take}
use Rattle.rbc_spec.specs.Line.{Line}
use Rattle.rbc_spec.specs.Centre.{Centre, beginning}
use Rattle.law_logs.specs.Logs.{LogEntry, Replays, AreLogs, IsFromLog, IsLegal, IsMerge, IsWorldRun, entries_of}

-- the first `count c` entries of the log of each centre c
abbrev pub cut : (ℕ → ℕ) → (ℕ → List LogEntry) → ℕ → List LogEntry
cut count logs c = take (count c) (logs c)

-- The first parts of logs are logs themselves. Suppose that each frame that was delivered is in the first part of its
-- sender's log. Then every merge of the first parts is one run of the world.
abbrev pub BeginningsTheorem : Type 0
BeginningsTheorem = (line : Line) (logs : ℕ → List LogEntry) (ends : ℕ → Centre) (count : ℕ → ℕ)
    → AreLogs line logs ends → (stops : ℕ → Centre) × AreLogs line (cut count logs) stops
    × (IsLegal (cut count logs) → (merged : List LogEntry) → IsMerge (cut count logs) merged
    → IsWorldRun line merged stops)

-- Two logs of centre c from its initial state. If one has the events of the first n entries of the other, it has those
-- entries.
abbrev pub SameLogTheorem : Type 0
SameLogTheorem = (line : Line) (c n : ℕ) (log again : List LogEntry) (last end : Centre)
    → Replays line c (beginning line c) log last → Replays line c (beginning line c) again end
    → map (λ e. e.event) again ≡ take n (map (λ e. e.event) log) → again ≡ take n log

-- Entries of all centres in the order in which they are written: each after the entry that sent the frame that it took
abbrev pub IsWrittenAfter : List LogEntry → List LogEntry → Type 0
IsWrittenAfter before [] = Unit {0}
IsWrittenAfter before (e ∷ entries) =
    IsFromLog (λ a. entries_of a before) e.centre e.event × IsWrittenAfter (before ++ e ∷ []) entries

abbrev pub WrittenFirstTheorem : Type 0
WrittenFirstTheorem =
    (written : List LogEntry) (n : ℕ) → IsWrittenAfter [] written → IsLegal (λ c. entries_of c (take n written))
