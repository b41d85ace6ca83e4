use Rattle.std.proofs.Common.{◌≡◌, drop, map}
use Rattle.rbc_node.proofs.counts.count_places.Given as goal
use Rattle.rbc_node.specs.Counted.{counted}
use Rattle.rbc_node.specs.declared.receipt.Receipt.{Receipt}

abbrev pub invariant-loop-receipt : goal.invariant-loop-receipt
invariant-loop-receipt l =
    counted l.counts.items (map (λ (r : Receipt). r.place) (drop l.receipt-index l.receipts))
    ≡ counted l.initial.counts.items (map (λ (r : Receipt). r.place) l.receipts)
