use Rattle.std.proofs.Common.{◌≡◌, length}
use Rattle.serve_workers.proofs.connections.connections.lanes_of.Given as goal

abbrev pub invariant-loop : goal.invariant-loop
invariant-loop l = length l.lanes.items ≡ l.counter
