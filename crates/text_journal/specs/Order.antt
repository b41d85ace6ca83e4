-- The entries of a line's journals as one list, and rising stamps.
use Rattle.std.specs.List.{AllPairs}
use Rattle.std.specs.Prelude.{◌+◌, ◌-◌, ◌<◌, ◌≡◌, ◌≤◌, length, List, map, None, Option, slice_index, Some, unwrap_or, ℕ}
use Rattle.rbc_spec.specs.World.{centre_of}
use Rattle.text_journal.specs.declared.entry.Entry.{Entry}
use Rattle.text_script.specs.rbc_world.Views.{event_of}

-- the centre that took the event of an entry
abbrev pub taken_at : Entry → ℕ
taken_at e = centre_of (event_of e.event)

-- one entry may precede another: by stamp, and entries of one stamp by centre
abbrev pub ComesBefore : Entry → Entry → Type 0
ComesBefore d e = (d.stamp ≤ e.stamp) × (d.stamp ≡ e.stamp → taken_at d ≤ taken_at e)

abbrev pub AreInOrder : List Entry → Type 0
AreInOrder es = AllPairs ComesBefore es

-- the time of an entry in the order of times; 0 if it has none
abbrev pub time_of : Entry → ℕ
time_of e = unwrap_or e.time_ms 0

-- one entry may precede another by time, and entries of one time as above
abbrev pub IsNoLater : Entry → Entry → Type 0
IsNoLater d e = (time_of d ≤ time_of e) × (time_of d ≡ time_of e → ComesBefore d e)

abbrev pub AreInTimeOrder : List Entry → Type 0
AreInTimeOrder es = AllPairs IsNoLater es

abbrev pub stamps_of : List Entry → List ℕ
stamps_of es = map (λ e. e.stamp) es

-- each of the first n stamps is above the one before it
abbrev pub RiseTo : ℕ → List ℕ → Type 0
RiseTo n stamps = (i : ℕ) → i + 1 < n → slice_index stamps i < slice_index stamps (i + 1)

-- the place of the first stamp that is not above the one before it; none if all rise
abbrev pub IsFirstFallen : List ℕ → Option ℕ → Type 0
IsFirstFallen stamps None = RiseTo (length stamps) stamps
IsFirstFallen stamps (Some at) =
    (0 < at) × (at < length stamps) × (slice_index stamps at ≤ slice_index stamps (at - 1)) × RiseTo at stamps
