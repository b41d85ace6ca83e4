-- The plain data of events and of the messages and replies after them.
use Rattle.std.specs.Prelude.{Err, map, Ok, option_map, Result, ℕ}
use Rattle.law_outside.specs.Outside as spec
use Rattle.rbc_msgs.specs.declared.fault.MsgFault.{MsgFault}
use Rattle.rbc_msgs.specs.Faults.{fault_number}
use Rattle.rbc_msgs.specs.StepMessage.{step_message}
use Rattle.rbc_msgs.specs.TrainText.{TrainText}
use Rattle.rbc_spec.specs.Line.{Line}
use Rattle.rbc_spec.specs.Message.{TrainMessage}
use Rattle.rbc_spec.specs.Outcome as outcome
use Rattle.rbc_spec.specs.World as world
use Rattle.rbc_watch.specs.declared.event.Event.{Event}
use Rattle.rbc_watch.specs.declared.event.Event.TheVariants as event
use Rattle.rbc_watch.specs.declared.event.Exchange.{Exchange}
use Rattle.rbc_watch.specs.declared.spoken.Saying.{Saying}
use Rattle.rbc_watch.specs.declared.spoken.Spoken.{Spoken}
use Rattle.rbc_watch.specs.declared.spoken.Word.{Word}
use Rattle.rbc_watch.specs.declared.spoken.Word.TheVariants as word

-- the fields of a message that matter outside, or a fault by its number
abbrev pub numbered : Result TrainText MsgFault → Result TrainMessage ℕ
numbered (Ok m) = Ok (step_message m)
numbered (Err fault) = Err (fault_number fault)

abbrev pub event_of : Event → world.Event
event_of (event.Bytes c read) = world.Bytes c (numbered read)
event_of (event.Set c s) = world.Set c s
event_of (event.Unset c s) = world.Unset c s
event_of (event.Delivery from to number) = world.Delivery from to number

abbrev pub saying_of : Saying → outcome.Saying
saying_of p = record { nid_engine = p.nid_engine; message = p.message }

abbrev pub word_of : Word → outcome.Word
word_of (word.Done s) = outcome.Done s
word_of (word.Asked s) = outcome.Asked s
word_of (word.NotHome s) = outcome.NotHome s
word_of (word.Told s) = outcome.Told s

abbrev pub spoken_of : Spoken → spec.Spoken
spoken_of o = record {
  is_heard = o.is_heard;
  sayings = map saying_of o.sayings.items;
  words = map word_of o.words.items;
}

-- the view after one more event, with the messages and replies after it
abbrev pub sees_exchange : Line → Exchange → spec.View → spec.View
sees_exchange line x v = spec.sees line (event_of x.event) (option_map spoken_of x.spoken) v
