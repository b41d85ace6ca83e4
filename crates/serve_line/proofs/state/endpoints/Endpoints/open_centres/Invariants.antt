use Rattle.std.proofs.Common.{◌≡◌, length}
use Rattle.serve_line.proofs.state.endpoints.Endpoints.open_centres.Given as goal

abbrev pub invariant-loop-centre : goal.invariant-loop-centre
invariant-loop-centre g l = length l.ports.items ≡ l.centre
