-- The gathering of logs, and of the receipts of the commits to them.
use Rattle.std.specs.List.{AllAdjacentBelow, count_by, flat_map}
use Rattle.std.specs.List.Sorted.{IsNonDecreasingBy, IsPermutation}
use Rattle.std.specs.Prelude.{[], ◌<◌, ◌==◌, ◌≡◌, ◌⊎◌, All, Err, if◌then◌else◌, length, List, map, None, Ok, Option}
use Rattle.std.specs.Prelude.{Result, slice_get, Some, ℕ}
use Rattle.law_logs.specs.Logs.{AreLogs, IsLegal}
use Rattle.rbc_centre.specs.States.{number_of}
use Rattle.rbc_log.specs.declared.entry.Entry.{Entry}
use Rattle.rbc_log.specs.Log.{IsReplaying, LogValue}
use Rattle.rbc_log.specs.Merge.{all_entries, AreOfLine, ends_by, logs_by}
use Rattle.rbc_node.specs.declared.gather_fault.GatherFault.{GatherFault}
use Rattle.rbc_node.specs.declared.gather_fault.GatherFault.TheVariants.{Centres, Foreign, Memory, Shares}
use Rattle.rbc_node.specs.declared.receipt.Receipt.{Receipt}
use Rattle.rbc_node.specs.Receipts.{Has, ShareValue}
use Rattle.rbc_spec.specs.Line.{IsLine, Line}

-- ## One log for each centre

-- of this line: at the place of each centre's number is its log
pub record AreAtPlaces (line : Line) (logs : List LogValue) : Type 0 where
  pub of_line : AreOfLine line logs
  pub each : (c : ℕ) (l : LogValue) → slice_get logs c ≡ Some l → number_of l.core ≡ c

pub record AreCentresOf (line : Line) (logs : List LogValue) : Type 0 where
  pub is_line : IsLine line
  pub count : length logs ≡ length line.centres
  pub places : AreAtPlaces line logs

-- of one line
abbrev pub AreCentres : List LogValue → Type 0
AreCentres logs = (line : Line) × AreCentresOf line logs

-- ## Each entry has exactly one receipt

-- each receipt names a place above that of the one before
abbrev pub Rises : List Receipt → Type 0
Rises receipts = AllAdjacentBelow (λ q r. q.place < r.place) receipts (length receipts)

-- each receipt is at its position among the entries, and the receipts have the order of the entries
pub record StandIn (entries : List Entry) (receipts : List Receipt) : Type 0 where
  pub there : All (Has entries) receipts
  pub in_order : Rises receipts

-- the receipts are in the log of their centre, in order; a centre without a log has no receipts
abbrev pub AreFound : Option LogValue → List Receipt → Type 0
AreFound (Some l) receipts = StandIn l.entries receipts
AreFound None receipts = receipts ≡ []

pub record IsFound (logs : List LogValue) (share : ShareValue) : Type 0 where
  pub found : AreFound (slice_get logs share.centre) share.receipts

-- the positions that the receipts of a share name, if it is of this centre
abbrev pub places_in : ℕ → ShareValue → List ℕ
places_in c share = if share.centre == c then map (λ r. r.place) share.receipts else []

-- the places that the receipts of one centre's shares name
abbrev pub places_of : ℕ → List ShareValue → List ℕ
places_of c shares = flat_map (places_in c) shares

-- each entry of the log is named by exactly one receipt
pub record HasEachOnce (shares : List ShareValue) (l : LogValue) : Type 0 where
  pub each : (k : ℕ) → k < length l.entries → count_by (λ p. p == k) (places_of (number_of l.core) shares) ≡ 1

-- each log's entries are the receipts of its shares, each once, and each share's in its order; no other share has a
-- receipt
pub record AreShared (logs : List LogValue) (shares : List ShareValue) : Type 0 where
  pub found : All (IsFound logs) shares
  pub once : All (HasEachOnce shares) logs

-- ## A family

-- Of this line: one log for each centre. Each replays, and each delivered frame is in its sender's log.
pub record IsFamilyOf (line : Line) (logs : List LogValue) : Type 0 where
  pub centres : AreCentresOf line logs
  pub replay : AreLogs line (logs_by logs) (ends_by line logs)
  pub legal : IsLegal (logs_by logs)

abbrev pub IsFamily : List LogValue → Type 0
IsFamily logs = (line : Line) × IsFamilyOf line logs

-- ## The answer

-- the same logs, in the order of their centres
pub record IsOrdered (given ordered : List LogValue) : Type 0 where
  pub same : IsPermutation given ordered
  pub by_centre : IsNonDecreasingBy (λ l. number_of l.core) ordered

-- When each fault is returned. `Centres` is tested first, then `Shares`, then `Foreign`; memory is needed only if there
-- is an entry.
abbrev pub IsGatherFault : List LogValue → List ShareValue → GatherFault → Type 0
IsGatherFault logs shares Memory = AreCentres logs × (0 < length (all_entries logs))
IsGatherFault logs shares Centres = AreCentres logs → ⊥
IsGatherFault logs shares Shares = AreCentres logs × (AreShared logs shares → ⊥)
IsGatherFault logs shares Foreign = AreCentres logs × AreShared logs shares × (IsLegal (logs_by logs) → ⊥)

-- the given logs, in the order of their centres, are a family, and their entries are the receipts of the shares
pub record IsUnited (given logs : List LogValue) (shares : List ShareValue) : Type 0 where
  pub ordered : IsOrdered given logs
  pub family : IsFamily logs
  pub shared : AreShared logs shares

-- The result is the family, or the fault of the logs in the order of their centres. Or memory ran out for them, or for
-- the order of more than one log.
abbrev pub Unites : List LogValue → List ShareValue → Result (List LogValue) GatherFault → Type 0
Unites given shares (Ok family) = IsUnited given family shares
Unites given shares (Err Memory) =
    (1 < length given) ⊎ ((ordered : List LogValue) × IsOrdered given ordered × IsGatherFault ordered shares Memory)
Unites given shares (Err fault) =
    (ordered : List LogValue) × IsOrdered given ordered × IsGatherFault ordered shares fault

-- the result for some logs that replay, one for each node; without a node no memory is needed
abbrev pub Gathers : ℕ → List ShareValue → Result (List LogValue) GatherFault → Type 0
Gathers nodes shares (Err Memory) = 0 < nodes
Gathers nodes shares result =
    (given : List LogValue) × (length given ≡ nodes) × All IsReplaying given × Unites given shares result
