use Rattle.law_invariants.proofs.ranges.laws.a_centre_stays_in_range.Goals as goal
use Rattle.law_invariants.proofs.RangesLemmas.Steps.{stays_in_range}

pub returns : goal.returns
returns o line c k event ok range old none = stays_in_range line ok c k event range old none
