use Rattle.std.proofs.Common.{◌≡◌}
use Rattle.serve_line.proofs.clients.paced.Pieces.fill.Given as goal

abbrev pub invariant-loop : goal.invariant-loop
invariant-loop g l = (l.self.given ≡ l.fn.self.given) × (l.self.end ≡ l.fn.self.end)
