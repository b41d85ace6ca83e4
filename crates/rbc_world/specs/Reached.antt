-- Worlds that events led to.
use Rattle.std.specs.Prelude.{◌≡◌, List, Ok, Some, ℕ}
use Rattle.rbc_centre.specs.declared.event.Event.{Event as CentreEvent}
use Rattle.rbc_centre.specs.declared.event.Event.TheVariants as of_centre
use Rattle.rbc_spec.specs.Line.{Line}
use Rattle.rbc_spec.specs.World.{Answer, Event, frame_sent, new_world, World, world_run}

-- some list of events, each with its answer, led from the line's initial state to this world
pub record WasReached (line : Line) (w : World) : Type 0 where
  pub events : List Event
  pub answers : List Answer
  pub run : world_run line (new_world line) events ≡ Ok (answers, w)

-- Centre c of this world may get this event: a message, a set or an unset. It may get a frame that was sent to it with
-- a number.
abbrev pub MayBeTold : World → ℕ → CentreEvent → Type 0
MayBeTold w c (of_centre.Train m) = Unit {0}
MayBeTold w c (of_centre.Set s) = Unit {0}
MayBeTold w c (of_centre.Unset s) = Unit {0}
MayBeTold w c (of_centre.Deliver from frame) = (number : ℕ) × (frame_sent w from c number ≡ Some frame)
