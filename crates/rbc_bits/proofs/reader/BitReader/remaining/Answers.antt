use Rattle.std.proofs.Common.{arith, sym}
use Rattle.rbc_bits.proofs.Bytes.{length-bits_of, length-window}
use Rattle.rbc_bits.proofs.reader.BitReader.remaining.Goals as goal
use Rattle.rbc_bits.specs.Bits.{bits_of}

pub returns : goal.returns
returns c =
    let r = c.self.inside in
    rw (← c.self.view_is)
    (sym (length-window r.used r.left (bits_of r.bytes.now)
    (omega (arith, length-bits_of r.bytes.now, c.self.invariant.1))))
