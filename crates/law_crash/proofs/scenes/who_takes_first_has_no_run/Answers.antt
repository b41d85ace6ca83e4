use Rattle.law_crash.proofs.Played.{ends_of, frames, has_no_run, takes_are, takes_legal, takes_written}
use Rattle.law_crash.specs.Scenes.{asks}
use Rattle.law_crash.proofs.scenes.who_takes_first_has_no_run.Goals as goal

pub returns-clause-replays : goal.returns-clause-replays
returns-clause-replays c = (ends_of asks frames, takes_are)

pub returns-clause-sent : goal.returns-clause-sent
returns-clause-sent c = takes_legal

pub returns-clause-written_first : goal.returns-clause-written_first
returns-clause-written_first c = takes_written

pub returns-clause-no_run : goal.returns-clause-no_run
returns-clause-no_run c = has_no_run
