-- The plain data of a world in memory.
use Rattle.rbc_spec.specs.Line.{Line}
use Rattle.rbc_spec.specs.World as spec
use Rattle.rbc_world.specs.declared.world.World.{World}
use Rattle.rbc_world.specs.States.{stands_for}

-- the line of a world, and its centres and trains
abbrev pub line_of : World → Line
line_of w = w.line

abbrev pub state_of : World → spec.World
state_of w = stands_for w.line w.centres.items w.trains.keys
