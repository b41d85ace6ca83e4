use Rattle.std.proofs.Common.{sym}
use Rattle.rbc_book.proofs.edits.resize.Goals as goal
use Rattle.rbc_book.proofs.Rows.{at_read, changed_is}
use Rattle.rbc_book.specs.Edits.{resized}

pub returns-clause-items : goal.returns-clause-items
returns-clause-items c =
    sym (changed_is (resized c.args.first c.args.count) c.args.i c.args.runs.now.items c.index_mut-run.result.now
    (at_read c.args.runs.now.items c.args.i c.index_mut-run.result.now c.requires c.index_mut-run.ensures.value))
