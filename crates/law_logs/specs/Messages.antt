-- The messages to a train in a centre's log. Their T_TRAIN counts the messages of the centre to the train.
use Rattle.std.specs.List.{filter}
use Rattle.std.specs.Prelude.{[], ◌++◌, ◌+◌, ◌==◌, ◌∷◌, ◌≡◌, List, map, ℕ}
use Rattle.law_logs.specs.Logs.{LogEntry, Replays}
use Rattle.rbc_spec.specs.Centre.{beginning, Centre}
use Rattle.rbc_spec.specs.Line.{Line}
use Rattle.rbc_spec.specs.Message.{TrackMessage}
use Rattle.rbc_spec.specs.Outcome.{Saying}

-- the messages to train t, in order
abbrev pub to_train : ℕ → List Saying → List TrackMessage
to_train t sayings = map (λ p. p.message) (filter (λ p. p.nid_engine == t) sayings)

-- the messages of the entries to train t, in order
abbrev pub told_to : ℕ → List LogEntry → List TrackMessage
told_to t [] = []
told_to t (e ∷ entries) = to_train t e.outcome.sayings ++ told_to t entries

-- the first has this T_TRAIN, and each of the others the one after that of the message before it
abbrev pub AreNumbered : ℕ → List TrackMessage → Type 0
AreNumbered first [] = Unit {0}
AreNumbered first (m ∷ others) = (m.t_train ≡ first) × AreNumbered (first + 1) others

-- the messages of a centre's log to a train have T_TRAIN 1, 2, 3 and so on
abbrev pub NumberTheorem : Type 0
NumberTheorem = (line : Line) (c t : ℕ) (entries : List LogEntry) (last : Centre)
    → Replays line c (beginning line c) entries last → AreNumbered 1 (told_to t entries)
