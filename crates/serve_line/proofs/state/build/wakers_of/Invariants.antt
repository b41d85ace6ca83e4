use Rattle.std.proofs.Common.{◌≡◌, length, map}
use Rattle.std.specs.List.{range_with_len}
use Rattle.serve_line.proofs.state.build.wakers_of.Given as goal

abbrev pub invariant-loop : goal.invariant-loop
invariant-loop l =
    map (λ row. length row.items) l.wakers.items ≡ map (λ c. length l.line.centres) (range_with_len 0 l.counter)
