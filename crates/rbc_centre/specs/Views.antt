-- The plain data of the types of a step.
use Rattle.std.specs.Prelude.{[], ◌++◌, ◌-◌, ◌==◌, ◌∷◌, if◌then◌else◌, List, map, None, Option, option_and_then}
use Rattle.std.specs.Prelude.{option_map, slice_get, Some, ℕ}
use Rattle.rbc_centre.specs.declared.event.Event.{Event}
use Rattle.rbc_centre.specs.declared.event.Event.TheVariants.{Deliver, Set, Train, Unset}
use Rattle.rbc_centre.specs.declared.fault.StepFault.{StepFault}
use Rattle.rbc_centre.specs.declared.fault.StepFault.TheVariants as fault
use Rattle.rbc_centre.specs.declared.outcome.Outcome.{Outcome as OutcomeCode}
use Rattle.rbc_centre.specs.declared.outcome.Word.{Word}
use Rattle.rbc_centre.specs.declared.outcome.Word.TheVariants as word
use Rattle.rbc_centre.specs.Sent.{frames_to}
use Rattle.rbc_link.specs.declared.link_answer.LinkAnswer.{LinkAnswer}
use Rattle.rbc_link.specs.Inbox.{answer_of}
use Rattle.rbc_msgs.specs.StepMessage.{step_message}
use Rattle.rbc_spec.specs.Centre.{Handing, Mission}
use Rattle.rbc_spec.specs.Frame.{Frame}
use Rattle.rbc_spec.specs.Outcome as spec
use Rattle.rbc_spec.specs.Outcome.{Outcome}
use Rattle.rbc_spec.specs.Step as step
use Rattle.rbc_train.specs.declared.heard.Heard.{Heard}
use Rattle.rbc_train.specs.Reasons.{reason_of}
use Rattle.rbc_train.specs.Sayings.{saying_of, told_train}

abbrev pub event_of : Event → step.Event
event_of (Train m) = step.Train (step_message m)
event_of (Set s) = step.Set s
event_of (Unset s) = step.Unset s
event_of (Deliver from frame) = step.Deliver from frame

-- the reply to the interlocking
abbrev pub word_of : Word → spec.Word
word_of (word.Done s) = spec.Done s
word_of (word.Asked s) = spec.Asked s
word_of (word.NotHome s) = spec.NotHome s
word_of (word.Told s) = spec.Told s

-- at most one reply
abbrev pub words_of : Option Word → List spec.Word
words_of (Some w) = word_of w ∷ []
words_of None = []

-- the frame of this number, from 1
abbrev pub frame_number : List Frame → ℕ → Option Frame
frame_number frames number = if number == 0 then None else slice_get frames (number - 1)

abbrev pub outcome_of : OutcomeCode → Outcome
outcome_of o = record {
  stamp = o.stamp;
  sayings = map saying_of o.sayings.items;
  frames = frames_to o.frames;
  words = words_of o.word ++ map (λ s. spec.Told s) o.told;
  link = option_map answer_of o.link;
  silence = option_map reason_of o.silence;
}

-- the outcome of a message or frame with this effect, and with these frames to each centre
abbrev pub outcome_heard : ℕ → Option LinkAnswer → (ℕ → List Frame) → Heard → Outcome
outcome_heard stamp answer frames h = record {
  stamp = stamp;
  sayings = told_train h.saying h.order;
  frames = frames;
  words = map (λ s. spec.Told s) h.told;
  link = option_map answer_of answer;
  silence = None;
}

-- the pending handover of a mission, if there is one
abbrev pub handing_at : Option Mission → Option Handing
handing_at mission = option_and_then (λ m. m.handing) mission

abbrev pub number_of_fault : StepFault → ℕ
number_of_fault fault.Memory = 1
number_of_fault fault.LinkFull = 2
number_of_fault fault.ClockEnd = 3
