use Rattle.std.proofs.Common.{arith}
use Rattle.rbc_border.proofs.Hands.{passes_more}
use Rattle.rbc_border.proofs.names.pass.Goals as goal

pub loop-preserved : goal.loop-preserved
loop-preserved c =
    passes_more c.loop.counter c.args.names.now c.args.hand.now c.loop.names c.loop.hand c.pass_first.new.names
    c.pass_first.new.hand (omega arith) c.loop.invariant c.pass_first.ensures
