-- An invariant of a centre while a question for sections is pending.
use Rattle.std.specs.Prelude.{◌≡◌, ℕ, ◌==◌, ◌&&◌, not, Bool, true, Some}
use Rattle.rbc_spec.specs.SectionRuns.{SectionRun, next_after, is_empty}
use Rattle.rbc_spec.specs.Line.{Line}
use Rattle.rbc_spec.specs.Sections.{is_on}
use Rattle.rbc_spec.specs.Centre.{Centre, Mission}

-- while a question of the train is pending, the pool of its mission is empty
abbrev pub AsksForEmptyPools : Centre → Type 0
AsksForEmptyPools k =
    (t first : ℕ) (m : Mission) → k.route_ask t ≡ Some first → k.mission t ≡ Some m → is_empty m.pool ≡ true

-- the run follows the hand, on the track of a mission that goes on
abbrev pub follows_hand : Line → SectionRun → Mission → Bool
follows_hand line r m = ((r.first == next_after m.hand) && is_on line m.place.track r.first) && not m.is_ended
