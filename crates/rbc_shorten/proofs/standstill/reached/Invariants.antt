use Rattle.rbc_place.proofs.Longest.{HasPassed}
use Rattle.rbc_shorten.proofs.standstill.reached.Given as goal
use Rattle.rbc_shorten.specs.Standstill.{begins_before}

abbrev pub invariant-loop-k : goal.invariant-loop-k
invariant-loop-k l = HasPassed (begins_before l.line l.front) l.hand.first l.hand.count l.k
