use Rattle.std.proofs.Common.{length}
use Rattle.rbc_log.proofs.merging.+are_of_centres.Given as goal

abbrev pub decreases-are_of_centres : goal.decreases-are_of_centres
decreases-are_of_centres l = length l.logs.now
