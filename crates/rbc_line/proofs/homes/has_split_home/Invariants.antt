use Rattle.rbc_line.proofs.homes.has_split_home.Given as goal
use Rattle.rbc_line.proofs.HomeSteps.{IsUnsplitBelow}

abbrev pub invariant-loop-i : goal.invariant-loop-i
invariant-loop-i l = IsUnsplitBelow l.sections l.i
