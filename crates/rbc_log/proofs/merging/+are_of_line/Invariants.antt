use Rattle.std.proofs.Common.{length}
use Rattle.rbc_log.proofs.merging.+are_of_line.Given as goal

abbrev pub decreases-are_of_line : goal.decreases-are_of_line
decreases-are_of_line l = length l.logs.now
