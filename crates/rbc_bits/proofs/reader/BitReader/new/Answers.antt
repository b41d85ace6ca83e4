use Rattle.std.proofs.Common.{arith}
use Rattle.std.proofs.lemmas.List.{take_all}
use Rattle.rbc_bits.proofs.Bytes.{length-bits_of}
use Rattle.rbc_bits.proofs.reader.BitReader.new.Goals as goal
use Rattle.rbc_bits.specs.Bits.{bits_of}

pub returns : goal.returns
returns c = take_all _ (bits_of c.args.bytes.now) (omega (arith, length-bits_of c.args.bytes.now))
