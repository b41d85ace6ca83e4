use Rattle.std.proofs.Common.{◌++◌, ◌≡◌}
use Rattle.std.specs.List.{flat_map, range_with_len}
use Rattle.serve_line.proofs.status.life.write_used.Given as goal
use Rattle.serve_line.specs.Lives.{link_row}

abbrev pub invariant-loop-to : goal.invariant-loop-to
invariant-loop-to l =
    l.text.items ≡ l.initial.text.items ++ flat_map (link_row l.line l.log.core) (range_with_len 0 l.to)
