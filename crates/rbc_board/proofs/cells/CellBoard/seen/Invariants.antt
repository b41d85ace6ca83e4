use Rattle.std.proofs.Common.{take}
use Rattle.rbc_board.proofs.cells.CellBoard.seen.Given as goal
use Rattle.rbc_board.proofs.Steps.{KnowNothing}
use Rattle.rbc_board.specs.Known.{AreNotesOf}

abbrev pub invariant-loop-cell : goal.invariant-loop-cell
invariant-loop-cell l = record {
  link : AreNotesOf (take l.cell-index l.cell-items) l.notes.items;
  nothing : KnowNothing l.notes.items;
}
