use Rattle.std.proofs.Common.{◌+◌, ◌∙◌, ap, arith}
use Rattle.rbc_book.proofs.book.Book.take_run.Goals as goal
use Rattle.rbc_book.proofs.Sheets.{after_taken, taken_more, taken_nothing}
use Rattle.rbc_spec.proofs.Runs.{within_from}
use Rattle.rbc_spec.specs.Centre.{is_open}

pub loop-taken-init : goal.loop-taken-init
loop-taken-init c = (taken_nothing c.args.first c.args.nid_engine c.args.self.now, omega arith)

pub take_part-taken-requires-clause-open : goal.take_part-taken-requires-clause-open
take_part-taken-requires-clause-open c =
    ap is_open (after_taken c.args.first c.loop-taken.taken c.args.nid_engine c.args.self.now c.loop-taken.self
    c.loop-taken.invariant.0)
    ∙ c.requires.open (c.args.first + c.loop-taken.taken)
    (within_from (record { first = c.args.first; count = c.args.count }) (c.args.first + c.loop-taken.taken)
    (omega arith) (omega (arith, c.loop-taken-test.true)))

pub loop-taken-preserved : goal.loop-taken-preserved
loop-taken-preserved c = (
  taken_more c.args.first c.loop-taken.taken c.take_part-taken.result c.args.nid_engine c.args.self.now
      c.loop-taken.self c.take_part-taken.new.self c.loop-taken.invariant.0 c.take_part-taken.ensures.taken,
  omega (arith, c.loop-taken-test.true, c.take_part-taken.ensures.most),
)
