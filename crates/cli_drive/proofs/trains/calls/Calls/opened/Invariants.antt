use Rattle.std.proofs.Common.{◌-◌, ◌^◌, ◌≡◌, min, sum_by, take}
use Rattle.cli_drive.proofs.trains.calls.Calls.opened.Given as goal

abbrev pub invariant-loop-connection : goal.invariant-loop-connection
invariant-loop-connection l =
    l.opened
    ≡ min (sum_by (λ connection. connection.opened) (take l.connection-index l.self.connections.items)) (2 ^ 64 - 1)
