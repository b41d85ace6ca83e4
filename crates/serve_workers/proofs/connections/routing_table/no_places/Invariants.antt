use Rattle.std.proofs.Common.{◌≡◌, None, replicate}
use Rattle.serve_workers.proofs.connections.routing_table.no_places.Given as goal

abbrev pub invariant-loop : goal.invariant-loop
invariant-loop g l = l.places.items ≡ replicate l.counter None
