use Rattle.std.proofs.Common.{arith}
use Rattle.rbc_bits.proofs.Fields.{field_at_err}
use Rattle.rbc_bits.specs.declared.fault.BitFault.TheVariants as bits
use Rattle.rbc_msgs.proofs.train_same.word.Goals as goal

pub unreachable-requires : goal.unreachable-requires
unreachable-requires c =
    omega (arith, field_at_err bits.Short _ _ c.args.reader.now c.in-Err.ensures.next)
