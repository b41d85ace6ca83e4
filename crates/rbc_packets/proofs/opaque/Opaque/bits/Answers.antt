use Rattle.std.proofs.Common.{◌*◌, ◌∙◌, ◌≤◌, ap, arith, length}
use Rattle.rbc_bits.proofs.Bytes.{length-bits_of}
use Rattle.rbc_bits.specs.Bits.{bits_of}
use Rattle.rbc_bits.specs.declared.fault.BitFault.TheVariants as bits
use Rattle.rbc_packets.proofs.Again.{part_at_err}
use Rattle.rbc_packets.proofs.opaque.Opaque.bits.Goals as goal

pub unreachable-requires : goal.unreachable-requires
unreachable-requires c =
    let s = c.deref-kept.result.now in
    let enough : s.count ≤ 8 * length s.bytes.items = rw c.deref-kept.ensures c.self.invariant.0 in
    absurd (omega (
      arith,
      part_at_err bits.Short _ s.count c.new-all.result c.in-Err.ensures.next,
      ap length (c.new-all.ensures ∙ ap bits_of c.as_slice.ensures),
      length-bits_of s.bytes.items,
      enough,
    ))
