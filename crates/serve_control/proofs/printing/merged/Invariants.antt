use Rattle.std.proofs.Common.{◌≡◌, map, take}
use Rattle.serve_control.proofs.printing.merged.Given as goal

abbrev pub invariant-loop-log : goal.invariant-loop-log
invariant-loop-log l = map (λ r. r.now) l.lent.items ≡ take l.log-index l.logs
