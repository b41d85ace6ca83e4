use Rattle.std.proofs.Common.{◌≡◌, map, replicate}
use Rattle.serve_line.proofs.looking.sent.no_counts.Given as goal

abbrev pub invariant-loop : goal.invariant-loop
invariant-loop l = map (λ row. row.items) l.counts.items ≡ replicate l.counter (replicate l.centres 0)
