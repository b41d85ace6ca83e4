use Rattle.std.proofs.Common.{refl}
use Rattle.rbc_bits.proofs.row.BitRow.new.Goals as goal
use Rattle.rbc_bits.specs.Bits.{field}

pub returns : goal.returns
unfolding field
returns c = refl
