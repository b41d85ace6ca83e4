use Rattle.std.proofs.Common.{All, take}
use Rattle.rbc_node.proofs.gathering.are_there.Given as goal
use Rattle.rbc_node.specs.Receipts.{Has}

abbrev pub invariant-loop-receipt : goal.invariant-loop-receipt
invariant-loop-receipt l = All (Has l.entries) (take l.receipt-index l.receipts)
