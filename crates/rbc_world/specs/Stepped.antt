-- The theorems of a step of a world, and of the world that it leaves.
use Rattle.std.specs.Prelude.{ℕ}
use Rattle.law_outside.specs.Outside.{StaysSafeOutside}
use Rattle.rbc_spec.specs.Line.{Line}
use Rattle.rbc_spec.specs.Promises.{IsSound, KeepsPromises}
use Rattle.rbc_spec.specs.ReadOff.{read_off, StandsFor}
use Rattle.rbc_spec.specs.Run.{Goes}
use Rattle.rbc_spec.specs.Theorems.{GoesForced, IsOneCentreLine}
use Rattle.rbc_spec.specs.World.{Answer, Event, World}
use Rattle.rbc_world.specs.Reached.{WasReached}

-- the answer to this event, and the world after it
pub record KeepsTheorems (line : Line) (w : World) (event : Event) (answer : Answer) (new : World) : Type 0 where
  -- It is one piece of the one line centre's run, or none.
  pub piece : Goes line (read_off line w) event answer (read_off line new)
  -- A section leaves an authority only by a message of its train, and the reports to the interlocking are true.
  pub promises : KeepsPromises line w event answer new
  -- This holds for all events that led here. By the messages to trains, no two trains may run over one section, and
  -- none over a section that is not released.
  pub outside : StaysSafeOutside line w event answer
  -- On a one-centre line the piece leaves no choice.
  pub one_centre : (c : ℕ) → IsOneCentreLine line c → GoesForced line (read_off line w) event answer (read_off line new)

-- a world of this line, after refused events too
pub record IsWorldOf (line : Line) (w : World) : Type 0 where
  -- Some list of events leads from the line's initial state to it.
  pub reached : ∥ WasReached line w ∥₁
  -- The state that is read off represents the centres.
  pub stands : StandsFor line w (read_off line w)
  -- Each train has at most one supervisor, and each section at most one train. No section in use and no right is lost
  -- or in two places.
  pub sound : IsSound line w
