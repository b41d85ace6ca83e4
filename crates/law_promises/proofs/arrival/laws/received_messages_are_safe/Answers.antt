use Rattle.law_promises.proofs.arrival.laws.received_messages_are_safe.Goals as goal
use Rattle.law_promises.proofs.ArrivalLemmas.Runs.{received_safe}
use Rattle.law_refinement.proofs.Promises.{whole_line}

pub returns : goal.returns
returns ctx line events answers w came ok is received = let h = whole_line line events answers w ok is in
    received_safe line ok events answers came h.last h.is_run received
