use Rattle.law_alike.proofs.Alike.{one_end}
use Rattle.law_alike.proofs.laws.a_list_of_events_has_one_end.Goals as goal

pub returns : goal.returns
returns ctx line w new others_new events results others are also had others_had =
    one_end line events w new others_new results others are also had others_had
