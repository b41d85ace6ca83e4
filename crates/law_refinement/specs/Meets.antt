-- A world of centres, and the state of the one line centre that it shows.
use Rattle.std.specs.Prelude.{◌≡◌, Ok}
use Rattle.rbc_spec.specs.Line.{Line}
use Rattle.rbc_spec.specs.LineCentre.{LineState}
use Rattle.rbc_spec.specs.World.{World, Event, Answer, world_step}
use Rattle.rbc_spec.specs.Run.{Goes}
use Rattle.law_invariants.specs.Flow.Flow.{flow_of}
use Rattle.law_invariants.specs.Flow.Shows.{Shows}
use Rattle.law_invariants.specs.Handover.Worlds.{IsWorldSound}

-- all of the world is sound, and the one line centre's state shows it
pub record Meets (line : Line) (w : World) (v : LineState) : Type 0 where
  pub sound : IsWorldSound line w
  pub shows : Shows line (flow_of w) v

-- For every answer of the centres to the event: the one line centre in state v may give it. It stays in state v, and v
-- meets the new world.
abbrev pub StaysWith : Line → World → LineState → Event → Type 0
StaysWith line w v event =
    (answer : Answer) (new : World) → world_step line w event ≡ Ok (answer, new)
    → Goes line v event answer v × Meets line new v
