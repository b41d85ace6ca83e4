use Rattle.std.proofs.Common.{◌*◌, ◌≤◌, ap, arith, length}
use Rattle.std.proofs.lemmas.List.{length-take}
use Rattle.rbc_bits.proofs.Bytes.{length-bits_of}
use Rattle.rbc_bits.specs.Bits.{bits_of}
use Rattle.rbc_packets.proofs.opaque.Opaque.new.Goals as goal

pub invariant_of-result : goal.invariant_of-result
invariant_of-result c =
    let bytes = c.in_ok-bytes_of.field-0.items in
    let n = length c.args.bits in
    let wide : n ≤ 8 * length bytes =
    omega (arith, ap length c.in_ok-bytes_of.ensures.ok, length-take n (bits_of bytes), length-bits_of bytes) in
    rw c.in-Ok.ensures.ok (
      omega (arith, wide, c.remaining.ensures),
      omega (arith, c.remaining.ensures, c.requires),
      omega (arith, c.in_ok-bytes_of.ensures.few),
    )
