-- How it is shown that the number is the centre's own.
use Rattle.std.proofs.Common.{rules}
use Rattle.rbc_centre.proofs.centre.Centre.number.Goals as goal

pub returns : goal.returns
returns c = search rules
