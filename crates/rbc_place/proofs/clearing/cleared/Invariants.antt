use Rattle.rbc_place.proofs.clearing.cleared.Given as goal
use Rattle.rbc_place.proofs.Longest.{HasPassed}
use Rattle.rbc_place.specs.Places.{place_of}
use Rattle.rbc_spec.specs.Place as spec

abbrev pub invariant-loop-k : goal.invariant-loop-k
invariant-loop-k l = HasPassed (spec.is_cleared l.line (place_of l.place)) l.hand.first l.hand.count l.k
