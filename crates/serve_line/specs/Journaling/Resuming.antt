-- How centres resume from journals: each event is committed again at its centre.
use Rattle.std.specs.Prelude.{◌≡◌, ℕ, List, [], ◌∷◌, slice_get, slice_set, Some}
use Rattle.rbc_spec.specs.Outcome.{Outcome}
use Rattle.text_script.specs.rbc_centre.declared.event.Event.{Event}
use Rattle.rbc_node.specs.Node.{centre_of, CommitsAt}
use Rattle.rbc_node.specs.Receipts.{ShareValue}
use Rattle.rbc_node.specs.declared.node.Node.{Node}
use Rattle.serve_control.specs.Events.{IsCommitted}
use Rattle.text_journal.specs.Order.{taken_at}
use Rattle.text_journal.specs.declared.entry.Entry.{Entry}

-- the share committed the event to some log of centre c, with an answer of this stamp
abbrev pub CommitsAgain : ℕ → ShareValue → ShareValue → Event → ℕ → Type 0
CommitsAgain c old new e stamp = (outcome : Outcome) × CommitsAt c old new e outcome × (outcome.stamp ≡ stamp)

-- a share of the node's centre before its first commit
abbrev pub first_share : Node → ShareValue
first_share node = record { centre = centre_of node; receipts = [] }

-- The entry's event is committed again at the node in the place of its centre, through the share in the same place. The
-- answer has the entry's stamp. All other shares stay.
pub record IsResumed (nodes : List Node) (e : Entry) (old new : List ShareValue) : Type 0 where
  pub node : Node
  pub before : ShareValue
  pub after : ShareValue
  pub event : Event
  pub there : slice_get nodes (taken_at e) ≡ Some node
  pub share : slice_get old (taken_at e) ≡ Some before
  pub its : IsCommitted (taken_at e) event e.event
  pub committed : CommitsAgain (centre_of node) before after event e.stamp
  pub others : new ≡ slice_set old (taken_at e) after

-- the entries in order
abbrev pub AreResumed : List Node → List Entry → List ShareValue → List ShareValue → Type 0
AreResumed nodes [] old new = new ≡ old
AreResumed nodes (e ∷ es) old new = (mid : List ShareValue) × IsResumed nodes e old mid × AreResumed nodes es mid new
