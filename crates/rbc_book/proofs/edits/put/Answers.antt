use Rattle.std.proofs.Common.{rules}
use Rattle.rbc_book.proofs.edits.put.Goals as goal
use Rattle.rbc_book.proofs.Moves.{moved_up}

pub returns-clause-items : goal.returns-clause-items
returns-clause-items c =
    let is = moved_up c.args.runs.now.items c.args.i c.args.run c.requires.within in
    search (rules, is)
