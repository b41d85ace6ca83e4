use Rattle.std.proofs.Common.{◌≡◌, drop}
use Rattle.rbc_spec.specs.Frame.{Frame}
use Rattle.rbc_spec.specs.ReadOff.{handed_over}
use Rattle.rbc_world.proofs.world.World.mission_between.Given as goal
use Rattle.rbc_world.specs.Missions.{carried_between, first_given}
use Rattle.rbc_world.specs.World.{state_of}

abbrev pub invariant-loop-before : goal.invariant-loop-before
invariant-loop-before l =
    carried_between (state_of l.self) l.nid_engine l.from l.to
    ≡ first_given (λ (f : Frame). handed_over l.nid_engine f.body)
    (drop l.before (((state_of l.self).at l.from).sent l.to))
