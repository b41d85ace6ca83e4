use Rattle.std.proofs.Common.{◌∙◌, arith, sym}
use Rattle.rbc_bits.proofs.Bytes.{bits_of-nil, number-fits, number-more}
use Rattle.rbc_bits.proofs.Fields.{field-none}
use Rattle.rbc_bits.proofs.reader.number_of.Goals as goal

pub loop-byte-init : goal.loop-byte-init
loop-byte-init c = record { bits = bits_of-nil ∙ sym (field-none 0); fits = omega arith }

pub loop-byte-preserved : goal.loop-byte-preserved
loop-byte-preserved c =
    let bytes = c.args.bytes.now in
    let i = c.loop-byte.byte-index in
    let number = c.loop-byte.number in
    rw c.from.ensures (record {
      bits = number-more bytes i number c.loop-byte-test.true (omega (arith, c.type_inv.bytes i))
          c.loop-byte.invariant.bits;
      fits = number-fits i number _ (omega (arith, c.type_inv.bytes i)) c.loop-byte.invariant.fits;
    })
