-- The state of a world.
use Rattle.std.specs.Option.{option_map_or}
use Rattle.std.specs.Prelude.{◌≡◌, List, slice_get, ℕ}
use Rattle.rbc_centre.specs.declared.centre.Centre.{Centre}
use Rattle.rbc_centre.specs.States as one
use Rattle.rbc_spec.specs.Centre as centre
use Rattle.rbc_spec.specs.Line.{Line}
use Rattle.rbc_spec.specs.World as spec

-- the centres by their numbers; any other number has the initial state
abbrev pub centres_of : Line → List Centre → ℕ → centre.Centre
centres_of line centres c = option_map_or one.state_of (slice_get centres c) (centre.beginning line c)

unfoldable pub stands_for : Line → List Centre → List ℕ → spec.World
stands_for line centres trains = record { at = centres_of line centres; trains = trains }

-- a centre of the line in its initial state
pub record AtBeginning (line : Line) (c : ℕ) (k : Centre) : Type 0 where
  pub line_of : one.line_of k ≡ line
  pub number_of : one.number_of k ≡ c
  pub state_of : one.state_of k ≡ centre.beginning line c
