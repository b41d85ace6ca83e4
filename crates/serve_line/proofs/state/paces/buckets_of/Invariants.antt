use Rattle.std.proofs.Common.{◌≡◌, length}
use Rattle.serve_line.proofs.state.paces.buckets_of.Given as goal

abbrev pub invariant-loop : goal.invariant-loop
invariant-loop l = length l.buckets.items ≡ l.counter
