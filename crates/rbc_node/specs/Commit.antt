-- A commit with a share: it is made to a log that has all receipts of the share, and the share gets the new receipt.
use Rattle.std.specs.Prelude.{◌≡◌, [], ◌∷◌, ◌++◌, length, map, IfSome}
use Rattle.rbc_spec.specs.Outcome.{Outcome}
use Rattle.rbc_centre.specs.States.{number_of}
use Rattle.rbc_centre.specs.Views.{event_of}
use Rattle.rbc_centre.specs.declared.event.Event.{Event}
use Rattle.rbc_log.specs.Log.{LogValue, IsReplaying, Appends, IsRefusal}
use Rattle.rbc_node.specs.Receipts.{ShareValue, committed_of, last_receipt, Has}
use Rattle.rbc_node.specs.declared.fault.ShareFault.{ShareFault}
use Rattle.rbc_node.specs.declared.fault.ShareFault.TheVariants.{Commit, Stray}

-- the log is of the share's centre, and has the share's last receipt, if there is one, at its place
pub record Fits (share : ShareValue) (log : LogValue) : Type 0 where
  pub centre : number_of log.core ≡ share.centre
  pub last : IfSome (last_receipt share) (Has log.entries)

-- the log took the event, with this outcome in its last entry, and the share has that entry's receipt after the others
pub record Commits (old new : ShareValue) (before after : LogValue) (event : Event) (outcome : Outcome) : Type 0 where
  pub fits : Fits old before
  pub appends : Appends before after event outcome
  pub replays : IsReplaying after
  pub centre : new.centre ≡ old.centre
  pub receipts : map committed_of new.receipts
      ≡ map committed_of old.receipts ++ record { event = event; outcome = outcome; place = length before.entries } ∷ []

-- When each fault is returned: `Stray` if and only if the log does not fit, else the fault of the log.
abbrev pub Refuses : ShareValue → LogValue → Event → ShareFault → Type 0
Refuses share log event (Commit fault) = Fits share log × IsRefusal log (event_of event) fault
Refuses share log event Stray = Fits share log → ⊥
