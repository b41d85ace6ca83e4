use Rattle.std.proofs.Common.{arith}
use Rattle.rbc_msgs.proofs.Needed.{front-shorter}
use Rattle.rbc_msgs.proofs.train_writing.with_further.Goals as goal

pub returns-then-bits-gt-MOST_BITS-clause-too_long : goal.returns-then-bits-gt-MOST_BITS-clause-too_long
returns-then-bits-gt-MOST_BITS-clause-too_long c =
    omega (arith, front-shorter c.loop-packet.packet-index c.args.packets.now, c.loop-packet.invariant.bits)
