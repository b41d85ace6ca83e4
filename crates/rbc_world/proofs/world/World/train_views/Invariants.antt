use Rattle.rbc_world.proofs.world.World.train_views.Given as goal
use Rattle.rbc_world.specs.View.{EachOf, IsTrainSeen}
use Rattle.rbc_world.specs.World.{line_of, state_of}

abbrev pub invariant-loop-i : goal.invariant-loop-i
invariant-loop-i l = EachOf (IsTrainSeen (line_of l.self) (state_of l.self)) l.i l.views.items
