use Rattle.law_promises.proofs.laws.what_the_world_sees_is_safe.Goals as goal
use Rattle.law_promises.proofs.Pieces.{run_safe}
use Rattle.law_refinement.proofs.Promises.{whole_line}

pub returns : goal.returns
returns ctx line events answers w ok is = let h = whole_line line events answers w ok is in
    run_safe line ok events answers h.last h.is_run
