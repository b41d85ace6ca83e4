use Rattle.law_invariants.proofs.ranges.laws.each_answer_says_few.Goals as goal
use Rattle.law_invariants.proofs.RangesLemmas.Worlds.{new_in_range, run_fits}
use Rattle.rbc_spec.specs.World.{new_world}

pub returns : goal.returns
returns o line events answers w ok range is =
    (run_fits line ok events range (new_world line) (new_in_range line) answers w is).1
