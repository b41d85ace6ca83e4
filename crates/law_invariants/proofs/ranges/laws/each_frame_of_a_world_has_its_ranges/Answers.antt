use Rattle.law_invariants.proofs.ranges.laws.each_frame_of_a_world_has_its_ranges.Goals as goal
use Rattle.law_invariants.proofs.RangesLemmas.Worlds.{new_in_range, run_in_range}
use Rattle.rbc_spec.specs.World.{new_world}

pub returns : goal.returns
returns o line events answers w ok range is =
    run_in_range line ok events (new_world line) range (new_in_range line) answers w is
