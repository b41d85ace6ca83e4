use Rattle.rbc_bits.proofs.Bytes.{bits_of-nil}
use Rattle.rbc_bits.proofs.Fields.{field-none}
use Rattle.rbc_bits.proofs.writer.BitWriter.with_capacity.Goals as goal

pub returns-clause-ok : goal.returns-clause-ok
returns-clause-ok c = rw (c.in_ok-with_capacity.ensures.items, bits_of-nil) (field-none 0)
