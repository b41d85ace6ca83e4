use Rattle.law_outside.proofs.scenes.what_trains_take_back_is_seen.Goals as goal
use Rattle.law_outside.proofs.Seen.{ended_first, ended_second, granted_back, granted_not_back, granted_second}
use Rattle.law_outside.proofs.Seen.{granted_third, reported_first, reported_second, runs_over_third}

pub returns-clause-runs : goal.returns-clause-runs
returns-clause-runs c = runs_over_third

pub returns-clause-cleared : goal.returns-clause-cleared
returns-clause-cleared c = reported_first

pub returns-clause-entered : goal.returns-clause-entered
returns-clause-entered c = reported_second

pub returns-clause-taken_back : goal.returns-clause-taken_back
returns-clause-taken_back c = granted_back

pub returns-clause-not_taken_back : goal.returns-clause-not_taken_back
returns-clause-not_taken_back c = granted_not_back

pub returns-clause-granted : goal.returns-clause-granted
returns-clause-granted c = granted_third

pub returns-clause-kept : goal.returns-clause-kept
returns-clause-kept c = granted_second

pub returns-clause-ended : goal.returns-clause-ended
returns-clause-ended c = ended_second

pub returns-clause-stays : goal.returns-clause-stays
returns-clause-stays c = ended_first
