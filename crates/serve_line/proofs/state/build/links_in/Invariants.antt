use Rattle.std.proofs.Common.{◌≡◌, map, take}
use Rattle.std.specs.List.{filter}
use Rattle.serve_line.proofs.state.build.links_in.Given as goal
use Rattle.serve_line.specs.Building.{direction_of, has_node}

abbrev pub invariant-loop-direction : goal.invariant-loop-direction
invariant-loop-direction l =
    map direction_of l.links.items ≡ filter (has_node l.nodes) (take l.direction-index l.directions)
