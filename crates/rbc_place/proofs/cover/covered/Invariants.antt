use Rattle.rbc_line.specs.SectionRuns.{run_of}
use Rattle.rbc_place.proofs.cover.covered.Given as goal
use Rattle.rbc_place.proofs.CoveredSections.{IsFound}
use Rattle.rbc_place.specs.Places.{place_of}
use Rattle.rbc_spec.specs.Place as spec

abbrev pub invariant-loop-s : goal.invariant-loop-s
invariant-loop-s l = IsFound (spec.covers l.line (place_of l.place)) l.s (run_of l.run)
