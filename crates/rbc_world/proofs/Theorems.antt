-- The theorems of a step whose result is that of the definition, and of the world that it leaves.
use Rattle.std.proofs.Common.{Err, Ok, Result}
use Rattle.std.specs.Result.{IfOk}
use Rattle.rbc_centre.specs.declared.fault.StepFault.{StepFault}
use Rattle.rbc_spec.specs.Line.{IsLine, Line}
use Rattle.rbc_spec.specs.World.{Answer, World, world_step}
use Rattle.rbc_world.proofs.Known.{world_sound, world_stands}
use Rattle.rbc_world.proofs.Outside.{step_outside}
use Rattle.rbc_world.proofs.Steps.{step_forced, step_piece, step_promises}
use Rattle.rbc_world.specs.Answers.{Gives}
use Rattle.rbc_world.specs.declared.event.WorldEvent.{WorldEvent}
use Rattle.rbc_world.specs.Reached.{WasReached}
use Rattle.rbc_world.specs.Stepped.{IsWorldOf, KeepsTheorems}
use Rattle.rbc_world.specs.Views.{event_of}

pub keeps_theorems : {X : Type 0} (answer : X → Answer) (line : Line) → IsLine line → (w new : World) (e : WorldEvent)
    → ∥ WasReached line w ∥₁ → (result : Result X StepFault)
    → Gives (λ x. (answer x, new)) result (world_step line w (event_of e))
    → IfOk result (λ x. KeepsTheorems line w (event_of e) (answer x) new)
keeps_theorems answer line ok w new e reached (Ok x) s = record {
  piece = step_piece answer line ok w new e reached (Ok x) s;
  promises = step_promises answer line ok w new e reached (Ok x) s;
  outside = step_outside answer line ok w new e (Ok x) s;
  one_centre = λ c one. step_forced answer line ok w new e reached c one (Ok x) s;
}
keeps_theorems answer line ok w new e reached (Err fault) s = tt

pub is_world_of : (line : Line) (w : World) → IsLine line → ∥ WasReached line w ∥₁ → IsWorldOf line w
is_world_of line w ok reached = record {
  reached = reached;
  stands = world_stands line w ok reached;
  sound = world_sound line w ok reached;
}
