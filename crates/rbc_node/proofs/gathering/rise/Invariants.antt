use Rattle.std.proofs.Common.{◌<◌}
use Rattle.std.specs.List.{AllAdjacentBelow}
use Rattle.rbc_node.proofs.gathering.rise.Given as goal
use Rattle.rbc_node.specs.declared.receipt.Receipt.{Receipt}

abbrev pub invariant-loop-i : goal.invariant-loop-i
invariant-loop-i l = AllAdjacentBelow (λ (q r : Receipt). q.place < r.place) l.receipts l.i
