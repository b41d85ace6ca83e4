use Rattle.std.proofs.Common.{◌≡◌, length}
use Rattle.serve_line.proofs.state.build.wakers_from.Given as goal

abbrev pub invariant-loop : goal.invariant-loop
invariant-loop l = length l.wakers.items ≡ l.counter
