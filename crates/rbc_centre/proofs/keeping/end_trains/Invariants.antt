use Rattle.std.proofs.Common.{length}
use Rattle.rbc_centre.proofs.keeping.end_trains.Given as goal

abbrev pub decreases-loop-train : goal.decreases-loop-train
decreases-loop-train l = length l.trains.items
