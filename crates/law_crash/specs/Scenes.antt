-- Scenes of programs that write journals, on a small line. One program keeps the premises. Two others break one premise
-- each, and no other, and something is lost.
use Rattle.std.specs.Prelude.{ℕ, zero, suc, true, List, [], ◌∷◌, ◌++◌, drop, map}
use Rattle.rbc_spec.specs.Line.{Line}
use Rattle.rbc_spec.specs.Message.{TrainBody, InitiationOfSession, SessionEstablished, StartOfMission}
use Rattle.rbc_spec.specs.Centre.{Centre, beginning}
use Rattle.rbc_spec.specs.Step.{Event, Train, Set, Deliver, taken}
use Rattle.law_outside.specs.Outside.{View, nothing_seen, sees_all, spoken_of}
use Rattle.law_outside.specs.Scenes as outside
use Rattle.law_outside.specs.Scenes.{in_section}
use Rattle.law_logs.specs.Logs.{LogEntry, happened, answered, sent_to}
use Rattle.law_logs.specs.Beginnings.Beginnings.{cut}
use Rattle.law_crash.specs.Crashes.{Period}

-- ## Logs

-- eight sections, all at centre A (0); trains 1 and 3 are registered at A, and train 2 at centre B (1)
abbrev pub line : Line
line = record outside.line {
  trains = record { nid_engine = 1; registrar = 0 } ∷ record { nid_engine = 2; registrar = 1 }
      ∷ record { nid_engine = 3; registrar = 0 } ∷ [];
}

-- the entries of centre c that takes these events from this state on
abbrev pub entries_from : ℕ → Centre → List Event → List LogEntry
entries_from c k [] = []
entries_from c k (event ∷ events) =
    record { centre = c; event = event; outcome = (taken line c event k).0 }
    ∷ entries_from c (taken line c event k).1 events

unfoldable pub log_of : ℕ → List Event → List LogEntry
log_of c events = entries_from c (beginning line c) events

-- A has the first value, B the second, and any other number the third
abbrev pub of_each : {X : Type 0} → X → X → X → ℕ → X
of_each a b other zero = a
of_each a b other (suc zero) = b
of_each a b other (suc (suc c)) = other

-- the logs if A takes these events first, and B the others
abbrev pub logs_of : List Event → List Event → ℕ → List LogEntry
logs_of at_a at_b = of_each (log_of 0 at_a) (log_of 1 at_b) []

-- a period in which only A takes events; this many are sent out, and this many are in its journal at the end
abbrev pub period_of_a : List Event → (out kept : ℕ) → Period
period_of_a events out kept = record {
  logs = logs_of events [];
  out = of_each out 0 0;
  kept = of_each kept 0 0;
}

-- train t opens a session, and starts its mission in section s
abbrev pub starts_in : (t s : ℕ) → List Event
starts_in t s =
    said 1 InitiationOfSession ∷ said 2 SessionEstablished ∷ said 3 (StartOfMission true (in_section s)) ∷ []
  where
    said : ℕ → TrainBody → Event
    said t_train body = Train (record { t_train = t_train; nid_engine = t; body = body })

-- ## A program that writes first

-- Section 1 is set, and train 1 is accepted there. These four entries are written and sent out. The last, a set of
-- section 2, is neither.
abbrev pub writes_first : Period
writes_first = period_of_a (Set 1 ∷ starts_in 1 1 ++ Set 2 ∷ []) 4 4

-- after the crash A takes the four events again, and then a set of section 3
abbrev pub goes_on : Period
goes_on = period_of_a (Set 1 ∷ starts_in 1 1 ++ Set 3 ∷ []) 5 5

-- ## A program that answers first

-- train 1 is accepted in section 1, and all is sent out; but only the set of section 1 is in the journal
abbrev pub answers_first : Period
answers_first = period_of_a (Set 1 ∷ starts_in 1 1) 4 1

-- after the crash A has forgotten train 1, and train 3 is accepted in section 1
abbrev pub forgets : Period
forgets = period_of_a (Set 1 ∷ starts_in 3 1) 4 4

-- the view from outside of all that was sent out, before the crash and after it
unfoldable pub seen_in_all : View
seen_in_all = sees_all line (map happened told) (map spoken_of (map answered told)) nothing_seen
  where
    told : List LogEntry
    told = cut answers_first.out answers_first.logs 0 ++ drop 1 (cut forgets.out forgets.logs 0)

-- ## A program that takes frames first

-- train 2 starts at A, which asks B for the right of the train
abbrev pub asks : List Event
asks = Set 1 ∷ starts_in 2 1

-- A's frames arrive at B; these numbers of entries of A and B are sent out, and as many are in the journals
abbrev pub period_of_both : (out_a out_b : ℕ) → Period
period_of_both out_a out_b = record {
  logs = logs_of asks (map (Deliver 0) (sent_to 1 (log_of 0 asks)));
  out = of_each out_a out_b 0;
  kept = of_each out_a out_b 0;
}

-- B takes the frame of A's fourth entry before it is sent out, and A's journal lacks that entry
abbrev pub takes_first : Period
takes_first = period_of_both 3 1

-- B takes it after that
abbrev pub takes_later : Period
takes_later = period_of_both 4 1
