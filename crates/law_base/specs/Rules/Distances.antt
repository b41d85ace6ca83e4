-- The positions from which a centre counts the distances in its messages to a train.
use Rattle.std.specs.Prelude.{◌≡◌, ℕ, ◌*◌, ◌≤◌, Some, None}
use Rattle.rbc_spec.specs.Line.{Line}
use Rattle.rbc_spec.specs.Place.{Place, Position, group_start, place_on}
use Rattle.rbc_spec.specs.Message.{TrainMessage, Request}
use Rattle.rbc_spec.specs.Centre.{Centre, Mission}
use Rattle.rbc_spec.specs.Rules.{extension, extended_by}
use Rattle.rbc_spec.specs.Step.{silence}

-- the place's front is not before the start of the section whose group it names
abbrev pub IsAhead : Line → Place → Type 0
IsAhead line place = 10 * group_start line place ≤ place.front

-- a request that centre c answers: the train's mission there, and the place of its report
pub record IsRequestHeard (line : Line) (c : ℕ) (k : Centre) (m : TrainMessage) (n : Mission)
    (place : Place) : Type 0 where
  pub position : Position
  pub asks : m.body ≡ Request position
  pub heard : silence line c k m ≡ None
  pub mission : k.mission m.nid_engine ≡ Some n
  pub place_is : place_on line n.place.track position ≡ Some place

-- the mission at the place, its hand extended as far as the centre extends it
abbrev pub extended : Line → ℕ → Centre → Place → Mission → Mission
extended line c k place n = extended_by (extension line c k (record n { place = place })) (record n { place = place })
