use Rattle.std.proofs.Common.{◌≡◌, length}
use Rattle.law_reached.specs.Seen.{yielded_on_way}
use Rattle.rbc_world.proofs.Firsts.{first_from}
use Rattle.rbc_world.proofs.world.World.mission_on_the_way.Given as goal
use Rattle.rbc_world.specs.Missions.{carried_from}
use Rattle.rbc_world.specs.World.{line_of, state_of}

abbrev pub invariant-loop-from : goal.invariant-loop-from
invariant-loop-from l =
    yielded_on_way (line_of l.self) (state_of l.self) l.nid_engine
    ≡ first_from (carried_from (line_of l.self) (state_of l.self) l.nid_engine) l.from (length (line_of l.self).centres)
