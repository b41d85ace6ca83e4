use Rattle.law_alike.proofs.Alike.{one_result}
use Rattle.law_alike.proofs.laws.a_step_has_one_result.Goals as goal

pub returns : goal.returns
returns ctx line left others_left w new others_new event result other is also had others_had =
    one_result line left others_left w new others_new event result other is also had others_had
