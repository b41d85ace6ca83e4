use Rattle.rbc_border.proofs.homes.stretch.Given as goal
use Rattle.rbc_border.proofs.Lists.{HasPassed}
use Rattle.rbc_border.specs.Homes.{is_of}

abbrev pub invariant-loop-k : goal.invariant-loop-k
invariant-loop-k l = HasPassed (is_of l.line l.home l.track) l.first l.k
