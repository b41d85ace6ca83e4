use Rattle.rbc_board.proofs.cells.CellBoard.seen.Goals as goal
use Rattle.rbc_board.proofs.Steps.{nothing_known}

pub returns-clause-nothing : goal.returns-clause-nothing
returns-clause-nothing c = nothing_known c.loop-cell.notes.items c.loop-cell.invariant.nothing
