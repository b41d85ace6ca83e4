-- The counts of the notes of a kind.
use Rattle.std.specs.Prelude.{◌+◌, ◌-◌, ◌==◌, ◌^◌, Bool, if◌then◌else◌, min, nat_lt, ℕ}
use Rattle.serve_notes.specs.declared.counts.Count.{Count}

-- the notes of a kind that were omitted in a second before this one
abbrev pub omitted_before : ℕ → Count → ℕ
omitted_before second c = if c.second == second then 0 else c.left_out

-- the counts of a kind in this second
abbrev pub turned : ℕ → Count → Count
turned second c =
    if c.second == second then c else record { second = second; written = 0; left_out = 0; all = c.all }

-- one more, up to the greatest number of 64 bits
abbrev pub one_more : ℕ → ℕ
one_more n = min (n + 1) (2 ^ 64 - 1)

-- the counts after a further note in the same second: it is written, or only counted
abbrev pub counted : Bool → Count → Count
counted is_written c =
    record {
      second = c.second;
      written = if is_written then min (c.written + 1) (2 ^ 32 - 1) else c.written;
      left_out = if is_written then c.left_out else one_more c.left_out;
      all = one_more c.all;
    }

-- a note is written if it is one of the first 10 of its kind in this second
abbrev pub is_written_in : ℕ → Count → Bool
is_written_in second c = nat_lt (turned second c).written 10
