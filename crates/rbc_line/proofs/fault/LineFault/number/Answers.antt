-- The number of each fault is its own.
use Rattle.std.proofs.Common.{rules}
use Rattle.rbc_line.proofs.fault.LineFault.number.Goals as goal

pub returns-in-Home : goal.returns-in-Home
returns-in-Home c = search rules
