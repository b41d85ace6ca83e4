-- The facts that are known of a node: the log under its lock is one of its centre, and replays.
use Rattle.std.specs.Prelude.{◌≡◌, ℕ, map, Option}
use Rattle.rbc_spec.specs.Frame.{Frame}
use Rattle.rbc_spec.specs.Outcome.{Outcome}
use Rattle.law_logs.specs.Logs.{sent_to}
use Rattle.rbc_centre.specs.States.{number_of}
use Rattle.rbc_centre.specs.Views.{frame_number}
use Rattle.rbc_centre.specs.declared.event.Event.{Event}
use Rattle.rbc_log.specs.Entries.{entry_of}
use Rattle.rbc_log.specs.Log.{LogValue, IsReplaying}
use Rattle.rbc_node.specs.Receipts.{ShareValue}
use Rattle.rbc_node.specs.Commit.{Commits, Refuses}
use Rattle.rbc_node.specs.declared.fault.ShareFault.{ShareFault}
use Rattle.rbc_node.specs.declared.node.Node.{Node}

abbrev pub centre_of : Node → ℕ
centre_of n = n.centre

-- a log of this centre that replays
pub record IsLogOf (c : ℕ) (l : LogValue) : Type 0 where
  pub replays : IsReplaying l
  pub centre : number_of l.core ≡ c

-- the share committed the event to some log of centre c
abbrev pub CommitsAt : ℕ → ShareValue → ShareValue → Event → Outcome → Type 0
CommitsAt c old new event outcome =
    (before after : LogValue) × IsLogOf c before × Commits old new before after event outcome

-- some log of centre c refused the event
abbrev pub RefusesAt : ℕ → ShareValue → Event → ShareFault → Type 0
RefusesAt c share event fault = (before : LogValue) × IsLogOf c before × Refuses share before event fault

-- the frame that some log of centre c has sent to a centre under a number, if it has
abbrev pub IsFrameOf : ℕ → ℕ → ℕ → Option Frame → Type 0
IsFrameOf c to number frame =
    (l : LogValue) × IsLogOf c l × (frame ≡ frame_number (sent_to to (map entry_of l.entries)) number)
