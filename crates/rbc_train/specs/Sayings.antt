-- Messages to trains, as the rules have them.
use Rattle.std.specs.Prelude.{List, [], ◌∷◌, ◌++◌, Option, Some, None}
use Rattle.rbc_spec.specs.Outcome.{Saying}
use Rattle.rbc_train.specs.declared.saying.Saying.{Saying as SayingCode}

abbrev pub saying_of : SayingCode → Saying
saying_of p = record { nid_engine = p.nid_engine; message = p.message }

-- one message or none
abbrev pub sayings_of : Option SayingCode → List Saying
sayings_of (Some p) = saying_of p ∷ []
sayings_of None = []

-- one message or none, and an order or none after it
abbrev pub told_train : Option SayingCode → Option SayingCode → List Saying
told_train saying None = sayings_of saying
told_train saying (Some order) = sayings_of saying ++ saying_of order ∷ []
