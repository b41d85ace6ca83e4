use Rattle.std.proofs.Common.{◌≡◌, map}
use Rattle.std.specs.List.{range_with_len}
use Rattle.serve_line.proofs.state.build.connections_of.Given as goal
use Rattle.serve_line.specs.Building.{awaited_journal}

abbrev pub invariant-loop-centre : goal.invariant-loop-centre
invariant-loop-centre l =
    map (λ connections. connections.journal) l.connections.items
    ≡ map (awaited_journal l.is_journaled) (range_with_len 0 l.centre)
