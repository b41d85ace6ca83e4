use Rattle.std.proofs.Common.{◌≡◌, length}
use Rattle.serve_line.proofs.browsers.free_places.Given as goal

abbrev pub invariant-loop : goal.invariant-loop
invariant-loop l = length l.places.items ≡ l.counter
