use Rattle.law_refinement.proofs.Promises.{whole_line}
use Rattle.law_trains.proofs.Loop.{trains_safe}
use Rattle.law_trains.proofs.laws.trains_that_obey_never_meet.Goals as goal
use Rattle.law_trains.specs.Trains.{answers_of, events_of}

pub returns : goal.returns
returns ctx line obeys train moments w ok new may is =
    let h = whole_line line (events_of moments) (answers_of moments) w ok is in
    trains_safe line ok obeys train moments h.last new may h.is_run
