use Rattle.std.proofs.Common.{◌≡◌, length}
use Rattle.rbc_spec.specs.ReadOff.{held_at}
use Rattle.rbc_world.proofs.Firsts.{first_from}
use Rattle.rbc_world.proofs.world.World.mission_at_a_centre.Given as goal
use Rattle.rbc_world.specs.Missions.{held_by_a_centre}
use Rattle.rbc_world.specs.World.{line_of, state_of}

abbrev pub invariant-loop-c : goal.invariant-loop-c
invariant-loop-c l =
    held_by_a_centre (line_of l.self) (state_of l.self) l.nid_engine
    ≡ first_from (held_at (state_of l.self) l.nid_engine) l.c (length (line_of l.self).centres)
