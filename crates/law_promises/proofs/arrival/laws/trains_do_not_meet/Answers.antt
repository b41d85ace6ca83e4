use Rattle.law_outside.specs.Outside.{nothing_seen, sees_all}
use Rattle.law_promises.proofs.arrival.laws.trains_do_not_meet.Goals as goal
use Rattle.law_promises.proofs.ArrivalLemmas.Ends.{do_not_meet}
use Rattle.law_promises.proofs.ArrivalLemmas.Runs.{received_safe}
use Rattle.law_refinement.proofs.Promises.{whole_line}

pub returns-clause-within : goal.returns-clause-within
returns-clause-within ctx line w extents safe truthful = do_not_meet line w extents safe truthful

pub returns-clause-meeting : goal.returns-clause-meeting
returns-clause-meeting ctx line events answers w came extents ok is received truthful =
    let h = whole_line line events answers w ok is in
    do_not_meet line (sees_all line events came nothing_seen) extents
    (received_safe line ok events answers came h.last h.is_run received) truthful
