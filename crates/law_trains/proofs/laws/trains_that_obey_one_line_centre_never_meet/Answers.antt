use Rattle.law_trains.proofs.Loop.{trains_safe}
use Rattle.law_trains.proofs.laws.trains_that_obey_one_line_centre_never_meet.Goals as goal

pub returns : goal.returns
returns ctx line obeys train moments last ok new may h = trains_safe line ok obeys train moments last new may h
