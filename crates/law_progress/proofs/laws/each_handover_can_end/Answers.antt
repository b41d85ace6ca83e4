use Rattle.law_invariants.proofs.NoStrayLemmas.Worlds.{each_reached}
use Rattle.law_invariants.proofs.RangesLemmas.Worlds.{new_in_range, run_in_range}
use Rattle.law_progress.proofs.laws.each_handover_can_end.Goals as goal
use Rattle.law_progress.proofs.Rounds.{goes_on}
use Rattle.rbc_spec.specs.World.{new_world}

pub returns : goal.returns
returns ctx line events answers w ok ranges before = goes_on line ok w (each_reached line ok events answers w before)
    (run_in_range line ok events (new_world line) ranges (new_in_range line) answers w before)
