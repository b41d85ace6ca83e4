-- A centre with its log.
use Rattle.std.specs.Prelude.{◌≡◌, ℕ, ◌≤◌, ◌<◌, List, [], ◌∷◌, ◌++◌, length, map, Ok}
use Rattle.rbc_spec.specs.Outcome.{Outcome}
use Rattle.rbc_spec.specs.Centre.{beginning}
use Rattle.rbc_spec.specs.Step.{Event, step}
use Rattle.rbc_centre.specs.Answer.{IsRefusal as IsStepRefusal}
use Rattle.rbc_centre.specs.States.{line_of, number_of, state_of}
use Rattle.rbc_centre.specs.Taken.{MayTake}
use Rattle.rbc_centre.specs.Views.{event_of}
use Rattle.rbc_centre.specs.declared.centre.Centre.{Centre}
use Rattle.rbc_centre.specs.declared.event.Event.{Event as EventInMemory}
use Rattle.law_logs.specs.Logs.{Replays}
use Rattle.rbc_log.specs.Entries.{entry_of}
use Rattle.rbc_log.specs.declared.entry.Entry.{Entry}
use Rattle.rbc_log.specs.declared.fault.CommitFault.{CommitFault}
use Rattle.rbc_log.specs.declared.fault.CommitFault.TheVariants.{Step, LogFull}

pub record LogValue : Type 0 where
  pub core : Centre
  pub entries : List Entry

-- how many entries a log holds at most (profile)
abbrev pub most_entries : ℕ
most_entries = 1000000

-- the entries lead from the centre's initial state to its present state
abbrev pub IsReplaying : LogValue → Type 0
IsReplaying l =
    Replays (line_of l.core) (number_of l.core) (beginning (line_of l.core) (number_of l.core)) (map entry_of l.entries)
    (state_of l.core)

-- The event was taken. It is appended to the entries with the outcome of the centre's step. The centre has the new
-- state of that step.
pub record Appends (old new : LogValue) (event : EventInMemory) (outcome : Outcome) : Type 0 where
  pub room : length old.entries < most_entries
  pub entries : map entry_of new.entries
      ≡ map entry_of old.entries
      ++ record { centre = number_of old.core; event = event_of event; outcome = outcome } ∷ []
  pub events : map (λ e. e.event) new.entries ≡ map (λ e. e.event) old.entries ++ event ∷ []
  pub core : step (line_of old.core) (number_of old.core) (event_of event) (state_of old.core)
      ≡ Ok (outcome, state_of new.core)
  pub line : line_of new.core ≡ line_of old.core
  pub number : number_of new.core ≡ number_of old.core

-- nothing changed
pub record IsUnchanged (old new : LogValue) : Type 0 where
  pub entries : new.entries ≡ old.entries
  pub core : state_of new.core ≡ state_of old.core
  pub line : line_of new.core ≡ line_of old.core
  pub number : number_of new.core ≡ number_of old.core

-- the log is not full, and its centre does not refuse the event
pub record MayCommit (l : LogValue) (event : Event) : Type 0 where
  pub room : length l.entries < most_entries
  pub allowed : MayTake l.core event

-- When each fault is returned. `LogFull`: if and only if the log is full. Else the refusal of the step, whose `Memory`
-- is returned only if the rules do not refuse the step.
abbrev pub IsRefusal : LogValue → Event → CommitFault → Type 0
IsRefusal l event (Step fault) =
    (length l.entries < most_entries)
    × IsStepRefusal fault (step (line_of l.core) (number_of l.core) event (state_of l.core))
IsRefusal l event LogFull = most_entries ≤ length l.entries
