use Rattle.law_alike.proofs.Answered.{left_out}
use Rattle.law_alike.proofs.laws.refused_events_may_be_left_out.Goals as goal

pub returns : goal.returns
returns ctx line w new others_new events other_events results others are also same =
    left_out line w new others_new events other_events results others are also same
