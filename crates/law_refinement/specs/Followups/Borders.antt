-- When a centre may send a train the position of the border to the next centre.
use Rattle.std.specs.Prelude.{◌≡◌, ◌≤◌, ℕ, ◌+◌, false, Some, None}
use Rattle.rbc_spec.specs.SectionRuns.{is_empty}
use Rattle.rbc_spec.specs.Line.{Line, start, next_centre}
use Rattle.rbc_spec.specs.Place.{group_start, farthest}
use Rattle.rbc_spec.specs.Centre.{Centre, Mission, Up}
use Rattle.rbc_spec.specs.Acts.{part_at}

-- The session is up, and centre d is the next of the track. The first section of home d in the hand starts ahead of the
-- group that the train reported, within the range of the packet.
pub record MayOrder (line : Line) (c t d : ℕ) (k : Centre) (m : Mission) : Type 0 where
  pub is_up : k.phase t ≡ Up
  pub next_is : next_centre line c m.place.track ≡ Some d
  pub ahead : group_start line m.place ≤ start line (part_at line d m.place.track m.hand).first
  pub within_reach : start line (part_at line d m.place.track m.hand).first ≤ group_start line m.place + farthest

-- centre d is the next of the track of the train's mission, if there is one
abbrev pub IsNextOf : Line → ℕ → ℕ → ℕ → Centre → Type 0
IsNextOf line c t d k = (m : Mission) → k.mission t ≡ Some m → next_centre line c m.place.track ≡ Some d

-- if a handover is due (none is pending, and the hand has a section of home d), it may be announced
abbrev pub MayAnnounce : Line → ℕ → ℕ → ℕ → Centre → Type 0
MayAnnounce line c t d k =
    (m : Mission) → k.mission t ≡ Some m → m.handing ≡ None → is_empty (part_at line d m.place.track m.hand) ≡ false
    → MayOrder line c t d k m
