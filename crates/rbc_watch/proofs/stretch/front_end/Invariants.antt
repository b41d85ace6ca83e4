use Rattle.std.proofs.Common.{◌≡◌}
use Rattle.law_outside.specs.Outside as spec
use Rattle.rbc_place.specs.Places.{place_of}
use Rattle.rbc_watch.proofs.stretch.front_end.Given as goal

abbrev pub invariant-loop-s : goal.invariant-loop-s
invariant-loop-s l = l.end ≡ spec.front_end l.line (place_of l.place) l.s
