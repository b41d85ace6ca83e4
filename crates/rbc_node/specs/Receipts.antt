-- The content of a share, and the position of a receipt in a log.
use Rattle.std.specs.Prelude.{◌≡◌, ℕ, ◌-◌, List, length, Option, Some, slice_get}
use Rattle.rbc_spec.specs.Outcome.{Outcome}
use Rattle.rbc_centre.specs.Views.{outcome_of}
use Rattle.rbc_centre.specs.declared.event.Event.{Event}
use Rattle.rbc_log.specs.declared.entry.Entry.{Entry}
use Rattle.rbc_node.specs.declared.receipt.Receipt.{Receipt}

-- a centre's number, and the receipts of the commits to its log, in order
pub record ShareValue : Type 0 where
  pub centre : ℕ
  pub receipts : List Receipt

-- the content of a receipt: the event, its outcome, and the position of their entry in the log
pub record Committed : Type 0 where
  pub event : Event
  pub outcome : Outcome
  pub place : ℕ

abbrev pub committed_of : Receipt → Committed
committed_of r = record { event = r.event; outcome = outcome_of r.outcome; place = r.place }

-- the last receipt, if there is one
abbrev pub last_receipt : ShareValue → Option Receipt
last_receipt share = slice_get share.receipts (length share.receipts - 1)

-- the entry at the receipt's place has its event and its outcome
pub record Has (entries : List Entry) (r : Receipt) : Type 0 where
  pub entry : Entry
  pub there : slice_get entries r.place ≡ Some entry
  pub event : entry.event ≡ r.event
  pub outcome : outcome_of entry.outcome ≡ outcome_of r.outcome
