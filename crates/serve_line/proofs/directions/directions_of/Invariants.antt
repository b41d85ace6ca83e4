use Rattle.std.proofs.Common.{◌≡◌}
use Rattle.std.specs.List.{flat_map, range_with_len}
use Rattle.serve_line.proofs.directions.directions_of.Given as goal
use Rattle.serve_line.specs.Directions.{directions_from}

abbrev pub invariant-loop-from : goal.invariant-loop-from
invariant-loop-from l = l.all.items ≡ flat_map (directions_from l.line) (range_with_len 0 l.from)
