-- The plain data of events and answers.
use Rattle.std.specs.Prelude.{[], ◌++◌, ◌≡◌, Err, is_none, map, None, Ok, Option, Result, Some, ℕ}
use Rattle.law_outside.specs.Outside.{Spoken}
use Rattle.rbc_centre.specs.declared.outcome.Outcome.{Outcome}
use Rattle.rbc_centre.specs.rbc_train.Sayings.{saying_of}
use Rattle.rbc_centre.specs.Views.{outcome_of, words_of}
use Rattle.rbc_msgs.specs.declared.fault.MsgFault.{MsgFault}
use Rattle.rbc_msgs.specs.Faults.{fault_number}
use Rattle.rbc_msgs.specs.StepMessage.{step_message}
use Rattle.rbc_msgs.specs.TrainReading.{read_train}
use Rattle.rbc_msgs.specs.TrainText.{TrainText}
use Rattle.rbc_spec.specs.Message.{TrainMessage}
use Rattle.rbc_spec.specs.Outcome.{Told}
use Rattle.rbc_spec.specs.World as world
use Rattle.rbc_spec.specs.World.{Bytes, Delivery, Event, Set, Unset}
use Rattle.rbc_world.specs.declared.event.Answer.{Answer}
use Rattle.rbc_world.specs.declared.event.Answer.TheVariants as answer
use Rattle.rbc_world.specs.declared.event.WorldEvent.{WorldEvent}
use Rattle.rbc_world.specs.declared.event.WorldEvent.TheVariants as event

-- the fields of a message that a step reads, or a fault by its number
abbrev pub numbered : Result TrainText MsgFault → Result TrainMessage ℕ
numbered (Ok m) = Ok (step_message m)
numbered (Err fault) = Err (fault_number fault)

-- bytes are the message that they spell, or the first fault that they show
abbrev pub event_of : WorldEvent → Event
event_of (event.Train c bytes) = Bytes c (numbered (read_train bytes.items))
event_of (event.Set c s) = Set c s
event_of (event.Unset c s) = Unset c s
event_of (event.Deliver from to number) = Delivery from to number

abbrev pub answer_of : Answer → world.Answer
answer_of (answer.Outcome o) = world.Answered (outcome_of o)
answer_of answer.NoCentre = world.NoCentre
answer_of answer.NotSent = world.NotSent
answer_of (answer.Fault fault) = world.Fault (fault_number fault)

-- the messages and replies that leave the line with an answer
abbrev pub spoken_by : Answer → Option Spoken
spoken_by (answer.Outcome o) = Some (record {
  is_heard = is_none o.silence;
  sayings = map saying_of o.sayings.items;
  words = words_of o.word ++ map (λ s. Told s) o.told;
})
spoken_by answer = None

-- the answer of no step: an outcome under stamp 0 without messages, frames and replies
abbrev pub nothing_answered : world.Answer
nothing_answered = world.Answered (record {
  stamp = 0;
  sayings = [];
  frames = λ d. [];
  words = [];
  link = None;
  silence = None;
})
