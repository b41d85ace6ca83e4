use Rattle.law_crash.proofs.Crashes.{after_a_crash, after_crashes}
use Rattle.law_crash.proofs.laws.a_crash_loses_nothing_that_was_told.Goals as goal

pub returns-clause-once : goal.returns-clause-once
returns-clause-once c = after_a_crash

pub returns-clause-again : goal.returns-clause-again
returns-clause-again c = after_crashes
