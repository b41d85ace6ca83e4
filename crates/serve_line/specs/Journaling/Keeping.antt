-- The writes of a centre's journal.
use Rattle.std.specs.Io.KnownBytes.{append_known}
use Rattle.std.specs.List.{flat_map}
use Rattle.std.specs.Prelude.{[], ◌+◌, ◌-◌, ◌^◌, ◌∷◌, ◌≡◌, ◌≤◌, Bool, drop, false, length, List, min, None, Option}
use Rattle.std.specs.Prelude.{Some, take, true, unwrap_or, ℕ}
use Rattle.rbc_log.specs.Log.{LogValue}
use Rattle.rbc_node.specs.Node.{IsLogOf}
use Rattle.rbc_spec.specs.Line.{Line}
use Rattle.serve_line.specs.Journaling.Noting.{AreNotesOf}
use Rattle.text_journal.specs.declared.entry.Entry.{Entry}
use Rattle.text_journal.specs.Journal.{entry_line}

-- The write of the next entries of centre c. They are those of a log after the first n, at most 256, and `count` is
-- their number. The journal gets their lines, in order, and nothing else.
pub record Writes (line : Line) (c n count : ℕ) (old new : Option (List ℕ)) : Type 0 where
  pub log : LogValue
  pub its : IsLogOf c log
  pub entries : List Entry
  pub notes : AreNotesOf (take 256 (drop n log.entries)) entries
  pub counted : length entries ≡ count
  pub bytes : new ≡ append_known old (flat_map (entry_line line) entries)

-- a write of the next entries, or none after an error
abbrev pub TriesWrite : Line → ℕ → ℕ → Option ℕ → Option (List ℕ) → Option (List ℕ) → Type 0
TriesWrite line c n (Some count) old new = Writes line c n count old new
TriesWrite line c n None old new = new ≡ old

-- the number of written events after this many more
abbrev pub written_after : ℕ → ℕ → ℕ
written_after n count = min (n + count) (2 ^ 64 - 1)

-- A turn of the writing thread of centre c, which had written n events, and then m. It ends with all events written
-- only after a write that found no further event.
abbrev pub IsTurn : Line → ℕ → ℕ → ℕ → Option (List ℕ) → Option (List ℕ) → Option Bool → Type 0
IsTurn line c n m old new (Some true) = Writes line c n 0 old new × (m ≡ n)
IsTurn line c n m old new (Some false) = (new ≡ old) × (m ≡ n)
IsTurn line c n m old new None =
    (count : Option ℕ) × TriesWrite line c n count old new × (m ≡ written_after n (unwrap_or count 0))

-- The writes of the entries of centre c from the n-th to the m-th, in order, by the number of entries of each. The
-- journal gets nothing else.
abbrev pub AreWrites : Line → ℕ → List ℕ → ℕ → ℕ → Option (List ℕ) → Option (List ℕ) → Type 0
AreWrites line c [] n m old new = (m ≡ n) × (new ≡ old)
AreWrites line c (count ∷ counts) n m old new =
    (mid : Option (List ℕ)) × Writes line c n count old mid
    × AreWrites line c counts (written_after n count) m mid new

-- The journal of centre c, which had its first n entries, got the next ones. If it is whole, it has all entries of a
-- log of the centre.
pub record HasKept (line : Line) (c n : ℕ) (old new : Option (List ℕ)) (is_whole : Bool) : Type 0 where
  pub counts : List ℕ
  pub written : ℕ
  pub writes : AreWrites line c counts n written old new
  pub whole : is_whole ≡ true → (log : LogValue) × IsLogOf c log × (length log.entries ≤ written)
