use Rattle.std.proofs.Common.{◌≡◌, map, take}
use Rattle.serve_line.proofs.browsers.ports_of.Given as goal
use Rattle.serve_line.specs.Addresses.{port_number}

abbrev pub invariant-loop-endpoint : goal.invariant-loop-endpoint
invariant-loop-endpoint l = l.ports.items ≡ map (λ e. port_number e.address) (take l.endpoint-index l.endpoints)
