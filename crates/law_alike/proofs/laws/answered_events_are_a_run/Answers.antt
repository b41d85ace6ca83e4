use Rattle.law_alike.proofs.Answered.{run_is}
use Rattle.law_alike.proofs.laws.answered_events_are_a_run.Goals as goal

pub returns : goal.returns
returns ctx line w new events results are =
    run_is line events w new results are
