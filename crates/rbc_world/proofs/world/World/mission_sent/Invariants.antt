use Rattle.std.proofs.Common.{◌≡◌, length}
use Rattle.rbc_world.proofs.Firsts.{first_from}
use Rattle.rbc_world.proofs.world.World.mission_sent.Given as goal
use Rattle.rbc_world.specs.Missions.{carried_between, carried_from}
use Rattle.rbc_world.specs.World.{line_of, state_of}

abbrev pub invariant-loop-to : goal.invariant-loop-to
invariant-loop-to l =
    carried_from (line_of l.self) (state_of l.self) l.nid_engine l.from
    ≡ first_from (carried_between (state_of l.self) l.nid_engine l.from) l.to (length (line_of l.self).centres)
