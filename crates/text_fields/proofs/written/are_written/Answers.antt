use Rattle.std.proofs.Common.{arith}
use Rattle.text_fields.proofs.Same.{goes_back, none_left}
use Rattle.text_fields.proofs.written.are_written.Goals as goal

pub loop-place-preserved : goal.loop-place-preserved
loop-place-preserved c =
    goes_back c.args.shown.now c.args.written.now c.loop-place.place _ _
    (omega (arith, c.loop-place-test.true, c.min-count.ensures))
    (omega (arith, c.loop-place-test.true, c.min-count.ensures))
    (c.is_written.ensures c.if-not-is_written.false) c.loop-place.invariant
