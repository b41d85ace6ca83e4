-- The event of a log entry, as its centre received it.
use Rattle.std.specs.Prelude.{◌≡◌, ℕ}
use Rattle.rbc_msgs.specs.TrainSpelling.{SpellsTrain}
use Rattle.text_script.specs.rbc_centre.declared.event.Event.{Event}
use Rattle.text_script.specs.rbc_centre.declared.event.Event.TheVariants as committed
use Rattle.text_script.specs.rbc_world.declared.event.WorldEvent.{WorldEvent}
use Rattle.text_script.specs.rbc_world.declared.event.WorldEvent.TheVariants as came

-- The event in the log of centre c, and the event that it received. A train's bytes spell its whole message, with the
-- packets that no step reads.
abbrev pub IsCommitted : ℕ → Event → WorldEvent → Type 0
IsCommitted c (committed.Train m) (came.Train d bytes) = (d ≡ c) × SpellsTrain bytes.items m
IsCommitted c (committed.Set s) (came.Set d r) = (d ≡ c) × (r ≡ s)
IsCommitted c (committed.Unset s) (came.Unset d r) = (d ≡ c) × (r ≡ s)
IsCommitted c (committed.Deliver from frame) (came.Deliver a b number) =
    (a ≡ from) × (b ≡ c) × (number ≡ frame.number)
IsCommitted c event other = ⊥
