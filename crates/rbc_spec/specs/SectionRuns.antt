-- Runs of consecutive sections. A hand, a pool, and the sections that a frame names are each a run: the number of the
-- first section, and their count.
use Rattle.std.specs.List.{list_all, range_with_len}
use Rattle.std.specs.Prelude.{[], if◌then◌else◌, ◌&&◌, ◌+◌, ◌-◌, ◌<◌, ◌==◌, ◌∷◌, ◌≡◌, ◌≤◌, Bool, false, length, List}
use Rattle.std.specs.Prelude.{max, min, nat_le, nat_lt, suc, true, zero, ℕ}

-- Rules: LN-12
pub record SectionRun : Type 0 where
  pub first : ℕ
  pub count : ℕ

abbrev pub no_run : SectionRun
no_run = record { first = 0; count = 0 }

-- the greatest number of sections in a hand (profile)
abbrev pub most_in_hand : ℕ
most_in_hand = 32

-- consecutive numbers as a run
abbrev pub run_of : List ℕ → SectionRun
run_of [] = no_run
run_of (s ∷ ss) = record { first = s; count = length ss + 1 }

-- the section is in the run
-- Rules: LN-12
unfoldable pub within : SectionRun → ℕ → Bool
within r s = nat_le r.first s && nat_lt s (r.first + r.count)

-- each section of the run passes the test
abbrev pub all_of : (ℕ → Bool) → SectionRun → Bool
all_of test r = list_all test (range_with_len r.first r.count)

-- the first number after the run: the section in advance of it, if that is on the same track
abbrev pub next_after : SectionRun → ℕ
next_after r = r.first + r.count

abbrev pub is_empty : SectionRun → Bool
is_empty r = r.count == 0

-- the sections of the run with a number less than s
-- Rules: LN-12
abbrev pub part_before : ℕ → SectionRun → SectionRun
part_before s r = record { first = r.first; count = min r.count (s - r.first) }

-- Rules: LN-12
abbrev pub part_from : ℕ → SectionRun → SectionRun
part_from s r = record { first = max r.first s; count = next_after r - max r.first s }

-- the sections that are in both runs
-- Rules: LN-12
abbrev pub shared : SectionRun → SectionRun → SectionRun
shared a b = part_from b.first (part_before (next_after b) a)

-- Two runs, of which the second follows the first at once, as one run. If the first is empty, the result is the second.
-- Rules: LN-12
abbrev pub joined : SectionRun → SectionRun → SectionRun
joined a b = if is_empty a then b else record { first = a.first; count = a.count + b.count }

-- the length of the longest run of numbers from `first` on that all pass the test, up to a limit
-- Rules: LN-13
unfoldable pub longest : (ℕ → Bool) → ℕ → ℕ → ℕ
longest test first zero = 0
longest test first (suc most) = if test first then suc (longest test (first + 1) most) else 0

-- how many sections of the run pass the test before the first one that does not
abbrev pub passing : (ℕ → Bool) → SectionRun → ℕ
passing test r = longest test r.first r.count

-- # The longest run under a test, as a relation.

-- The run of `count` sections from the first on passes the test. The next section does not pass, or the run has the
-- greatest length.
pub record IsLongest (test : ℕ → Bool) (first most count : ℕ) : Type 0 where
  pub fits : count ≤ most
  pub each : (s : ℕ) → within (record { first = first; count = count }) s ≡ true → test s ≡ true
  pub ends : count < most → test (first + count) ≡ false
