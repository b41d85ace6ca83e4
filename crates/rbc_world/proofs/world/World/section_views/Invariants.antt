use Rattle.rbc_spec.specs.ReadOff.{read_off}
use Rattle.rbc_world.proofs.world.World.section_views.Given as goal
use Rattle.rbc_world.specs.View.{EachOf, ShowsSection}
use Rattle.rbc_world.specs.World.{line_of, state_of}

abbrev pub invariant-loop-s : goal.invariant-loop-s
invariant-loop-s l = EachOf (λ s p. ShowsSection (read_off (line_of l.self) (state_of l.self)) s p) l.s l.views.items
