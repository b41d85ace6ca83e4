-- The print of the centres' logs at the end.
use Rattle.std.specs.Io.KnownBytes.{Appends}
use Rattle.std.specs.Prelude.{◌+◌, ◌-◌, ◌^◌, ◌∷◌, length, List, min, Ok, Option, option_map, ℕ}
use Rattle.rbc_log.specs.Log.{LogValue}
use Rattle.rbc_node.specs.Gather.{Gathers}
use Rattle.rbc_node.specs.Receipts.{ShareValue}
use Rattle.rbc_spec.specs.Line.{Line}
use Rattle.serve_control.specs.Prints.{IsPrintOfLogs}

-- the print of these logs follows the bytes of the writer, if those are known
abbrev pub AddsPrint : Line → List LogValue → Option (List ℕ) → Option (List ℕ) → Type 0
AddsPrint line logs before after = (text : List ℕ) × IsPrintOfLogs line logs text × Appends before after text

-- the same of logs of this number of centres, whose entries are these receipts
abbrev pub AddsGathered : ℕ → List ShareValue → Line → Option (List ℕ) → Option (List ℕ) → Type 0
AddsGathered nodes shares line before after =
    (logs : List LogValue) × Gathers nodes shares (Ok logs) × AddsPrint line logs before after

-- the number of entries with those of one log more
abbrev pub with_entries : ℕ → LogValue → ℕ
with_entries count log = min (count + length log.entries) (2 ^ 64 - 1)

-- the bytes of a writer, after the name that separates it from other writers
abbrev pub named : ℕ → Option (List ℕ) → Option (List ℕ)
named name known = option_map (λ bytes. name ∷ bytes) known
