-- The plain data of an entry in memory.
use Rattle.std.specs.Prelude.{ℕ}
use Rattle.rbc_spec.specs.Outcome.{Outcome}
use Rattle.rbc_centre.specs.Views.{event_of, outcome_of}
use Rattle.rbc_centre.specs.declared.event.Event.{Event}
use Rattle.law_logs.specs.Logs.{LogEntry}
use Rattle.rbc_log.specs.declared.entry.Entry.{Entry}

abbrev pub entry_of : Entry → LogEntry
entry_of e = record { centre = e.centre; event = event_of e.event; outcome = outcome_of e.outcome }

-- an entry with the whole event, so with the packets of a message that no step reads
pub record Written : Type 0 where
  pub centre : ℕ
  pub event : Event
  pub outcome : Outcome

abbrev pub written_of : Entry → Written
written_of e = record { centre = e.centre; event = e.event; outcome = outcome_of e.outcome }
