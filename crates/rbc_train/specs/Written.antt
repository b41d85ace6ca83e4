-- The effect of a message, written in place.
use Rattle.std.specs.Prelude.{Result, Ok, Err}
use Rattle.rbc_train.specs.declared.heard.Heard.{Heard}
use Rattle.rbc_train.specs.declared.reason.Reason.{Reason}

-- the outcome, or the reason of silence
abbrev pub written : Result (Unit {0}) Reason → Heard → Result Heard Reason
written (Ok _) h = Ok h
written (Err why) h = Err why
