-- The homes of sections in memory, along their tracks.
use Rattle.std.specs.Prelude.{◌≡◌, ◌≢◌, ℕ, ◌<◌, ◌≤◌, ◌==◌, List, take, filter, sum_by, Some, slice_get}
use Rattle.rbc_line.specs.declared.parts.Section.{Section}

-- sections are in order, track by track
abbrev pub IsAscending : List Section → Type 0
IsAscending rows =
    (s e : ℕ) (p q : Section) → s ≤ e → slice_get rows s ≡ Some p → slice_get rows e ≡ Some q → p.track ≤ q.track

-- on one track, between two sections of one home, a section of another
abbrev pub IsSplit : List Section → Type 0
IsSplit rows =
    (s m e : ℕ) × (p n q : Section) × (s < m) × (m < e) × (slice_get rows s ≡ Some p) × (slice_get rows m ≡ Some n)
    × (slice_get rows e ≡ Some q)
    × (p.track ≡ q.track) × (p.home ≡ q.home) × (n.home ≢ p.home)

-- between two sections of one home and track are only sections of that home
abbrev pub IsUnsplit : List Section → Type 0
IsUnsplit rows =
    (s m e : ℕ) (p n q : Section) → s ≤ m → m ≤ e → slice_get rows s ≡ Some p → slice_get rows m ≡ Some n
    → slice_get rows e ≡ Some q
    → p.track ≡ q.track → p.home ≡ q.home → n.home ≡ p.home

-- each starts at the end of the sections before it on its track
abbrev pub HasOwnStarts : List Section → Type 0
HasOwnStarts rows =
    (s : ℕ) (row : Section) → slice_get rows s ≡ Some row
    → row.start ≡ sum_by (λ q. q.metres) (filter (λ q. q.track == row.track) (take s rows))
