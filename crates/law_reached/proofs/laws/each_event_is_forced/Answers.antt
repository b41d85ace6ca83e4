use Rattle.law_reached.proofs.Known.{is_known}
use Rattle.law_reached.proofs.laws.each_event_is_forced.Goals as goal
use Rattle.law_reached.proofs.Missions.{forced, one_proof, run_is, run_read, stays_local}

pub returns-clause-local : goal.returns-clause-local
returns-clause-local o line c events answers w ok one is = stays_local line ok c one events answers w is

pub returns-clause-one_proof : goal.returns-clause-one_proof
returns-clause-one_proof o line w p q = one_proof line w p q

pub returns-clause-forced : goal.returns-clause-forced
returns-clause-forced o line c w new event answer ok one known local is =
    forced line ok c one w known local event answer new is

pub returns-clause-forced_after : goal.returns-clause-forced_after
returns-clause-forced_after o line c events answers w new event answer ok one before is =
    forced line ok c one w (is_known line ok events answers w before)
    (stays_local line ok c one events answers w before) event answer new is

pub returns-clause-run : goal.returns-clause-run
returns-clause-run o line c events answers w ok one is = run_is line ok c one events answers w is

pub returns-clause-last : goal.returns-clause-last
returns-clause-last o line c events answers w ok one is = run_read line ok c one events answers w is
