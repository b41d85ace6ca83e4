use Rattle.std.proofs.Common.{◌≡◌, map}
use Rattle.cli_drive.specs.Calls.{ports_of_trains}
use Rattle.cli_drive.proofs.trains.calls.Calls.new.Given as goal

abbrev pub invariant-loop : goal.invariant-loop
invariant-loop l =
    map (λ connection. connection.port) l.connections.items ≡ ports_of_trains l.first l.centres l.counter
