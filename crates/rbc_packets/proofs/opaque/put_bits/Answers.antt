use Rattle.std.proofs.Common.{arith}
use Rattle.rbc_bits.proofs.Fields.{field_at_err}
use Rattle.rbc_bits.specs.declared.fault.BitFault.TheVariants as bits
use Rattle.rbc_packets.proofs.opaque.put_bits.Goals as goal

pub unreachable-requires : goal.unreachable-requires
unreachable-requires c =
    absurd (omega (
      arith,
      field_at_err bits.Short _ c.remaining-width.result c.args.part c.in-Err.ensures.next,
      c.remaining-width.ensures,
    ))
