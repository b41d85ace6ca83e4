use Rattle.rbc_spec.specs.ReadOff.{read_off}
use Rattle.rbc_world.proofs.world.World.session_views.Given as goal
use Rattle.rbc_world.specs.View.{EachOf, ShowsSession}
use Rattle.rbc_world.specs.World.{line_of, state_of}

abbrev pub invariant-loop-c : goal.invariant-loop-c
invariant-loop-c l =
    EachOf (λ c p. ShowsSession (read_off (line_of l.self) (state_of l.self)) l.nid_engine c p) l.c l.views.items
