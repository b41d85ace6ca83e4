-- An event that a centre takes.
use Rattle.std.specs.Prelude.{◌≡◌, None}
use Rattle.rbc_centre.specs.declared.centre.Centre.{Centre}
use Rattle.rbc_centre.specs.declared.outcome.Outcome.{Outcome}
use Rattle.rbc_centre.specs.Rooms.{HasFrameRoom}
use Rattle.rbc_centre.specs.States.{line_of, number_of, state_of}
use Rattle.rbc_centre.specs.Views.{outcome_of}
use Rattle.rbc_link.specs.Links.{HasRoom}
use Rattle.rbc_spec.specs.Step as step

-- the centre does not refuse the event
abbrev pub MayTake : Centre → step.Event → Type 0
MayTake k event = step.refusal (line_of k) (number_of k) (state_of k) event ≡ None

-- there is room for the frames of one step, on each link and in the answer
pub record HasRoomToSend (k : Centre) : Type 0 where
  pub links : HasRoom k.links 4
  pub frames : HasFrameRoom k.room

-- the two centres have the same number on the same line
pub record KeepsPlace (old new : Centre) : Type 0 where
  pub line : line_of new ≡ line_of old
  pub number : number_of new ≡ number_of old

-- the outcome and the new state are those of the definition
abbrev pub HasTaken : step.Event → Centre → Centre → Outcome → Type 0
HasTaken event old new out =
    (outcome_of out, state_of new) ≡ step.taken (line_of old) (number_of old) event (state_of old)
