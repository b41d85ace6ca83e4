use Rattle.std.proofs.Common.{◌≡◌, length}
use Rattle.rbc_board.proofs.cells.CellBoard.new.Given as goal

abbrev pub invariant-loop : goal.invariant-loop
invariant-loop l = length l.row.items ≡ l.counter
