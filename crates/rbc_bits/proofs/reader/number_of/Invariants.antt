use Rattle.std.proofs.Common.{◌*◌, ◌<◌, ◌^◌, ◌≡◌, take}
use Rattle.rbc_bits.proofs.reader.number_of.Given as goal
use Rattle.rbc_bits.specs.Bits.{bits_of, field}

abbrev pub invariant-loop-byte : goal.invariant-loop-byte
invariant-loop-byte l =
    record {
      bits : bits_of (take l.byte-index l.bytes) ≡ field (8 * l.byte-index) l.number;
      fits : l.number < 2 ^ (8 * l.byte-index);
    }
