use Rattle.std.proofs.Common.{◌+◌, refl}
use Rattle.rbc_border.proofs.lending.lend_run.Goals as goal
use Rattle.rbc_border.proofs.Loans.{lends_more, lends_none}

pub loop-k-init : goal.loop-k-init
loop-k-init c = lends_none c.args.nid_engine c.args.run.first c.args.book.now

pub loop-k-preserved : goal.loop-k-preserved
loop-k-preserved c =
    lends_more c.args.nid_engine c.args.run.first c.loop-k.k
    (c.args.run.first + c.loop-k.k) c.args.book.now c.loop-k.book c.lend_one.new.book refl c.loop-k.invariant
    c.lend_one.ensures
