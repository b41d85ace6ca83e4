use Rattle.std.proofs.Common.{◌≡◌}
use Rattle.serve_line.proofs.state.server.Server.open_kept.Given as goal

abbrev pub invariant-loop-node : goal.invariant-loop-node
invariant-loop-node g l = l.opened.answer ≡ l.fn.answer
