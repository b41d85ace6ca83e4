-- The senders of delivered frames, among logs that are each at its centre's number.
use Rattle.std.specs.Prelude.{◌≡◌, ℕ, List, Some, map, slice_get, All}
use Rattle.law_logs.specs.Logs.{sent_to}
use Rattle.rbc_centre.specs.States.{number_of}
use Rattle.rbc_centre.specs.Views.{frame_number}
use Rattle.rbc_centre.specs.declared.event.Event.{Event}
use Rattle.rbc_centre.specs.declared.event.Event.TheVariants.{Deliver}
use Rattle.rbc_log.specs.Entries.{entry_of}
use Rattle.rbc_log.specs.Log.{LogValue}

-- the log at this place has the frame that the event brings, as sent to centre c under its number
abbrev pub IsSent : List LogValue → ℕ → Event → Type 0
IsSent logs c (Deliver from frame) =
    (l : LogValue) × (slice_get logs from ≡ Some l)
    × (frame_number (sent_to c (map entry_of l.entries)) frame.number ≡ Some frame)
IsSent logs c event = Unit {0}

-- the sender's log has each frame that this log took
pub record TakesSent (logs : List LogValue) (l : LogValue) : Type 0 where
  pub each : All (λ e. IsSent logs (number_of l.core) e.event) l.entries

-- the sender's log has each frame that any of the logs took
abbrev pub AllTakeSent : List LogValue → Type 0
AllTakeSent logs = All (TakesSent logs) logs
