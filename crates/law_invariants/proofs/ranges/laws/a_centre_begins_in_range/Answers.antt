use Rattle.law_invariants.proofs.ranges.laws.a_centre_begins_in_range.Goals as goal
use Rattle.law_invariants.proofs.RangesLemmas.Steps.{begins_in_range}

pub returns : goal.returns
returns o line c = begins_in_range line c
