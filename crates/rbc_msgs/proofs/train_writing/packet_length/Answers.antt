use Rattle.std.proofs.Common.{ap, arith, length}
use Rattle.rbc_msgs.proofs.train_writing.packet_length.Goals as goal
use Rattle.rbc_msgs.proofs.TrainParts.{length-packet}

pub returns-clause-value : goal.returns-clause-value
returns-clause-value c =
    omega (arith, length-packet c.args.packet.now, c.from.ensures, c.remaining.ensures, ap length c.bits.ensures.bits)
