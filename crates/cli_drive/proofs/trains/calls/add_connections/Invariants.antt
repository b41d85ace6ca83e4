use Rattle.std.proofs.Common.{◌++◌, ◌≡◌, map}
use Rattle.cli_drive.specs.Calls.{ports}
use Rattle.cli_drive.proofs.trains.calls.add_connections.Given as goal

abbrev pub invariant-loop-centre : goal.invariant-loop-centre
invariant-loop-centre l =
    map (λ connection. connection.port) l.connections.items
    ≡ map (λ connection. connection.port) l.initial.connections.items ++ ports l.first l.centre
