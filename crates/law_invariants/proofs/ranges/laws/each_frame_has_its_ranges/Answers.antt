use Rattle.law_invariants.proofs.ranges.laws.each_frame_has_its_ranges.Goals as goal
use Rattle.law_invariants.proofs.RangesLemmas.Steps.{sends_in_range}

pub returns : goal.returns
returns o line c k event ok range old none = sends_in_range line ok c k event range old none
