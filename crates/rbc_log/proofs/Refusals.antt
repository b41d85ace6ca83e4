-- A refusal of the log is that of its centre.
use Rattle.std.proofs.Common.{◌<◌, ◌≡◌, length, None, refl}
use Rattle.rbc_centre.proofs.Steps.{refused_step, taken_step}
use Rattle.rbc_centre.specs.Answer.{IsRefusalOf}
use Rattle.rbc_centre.specs.declared.fault.StepFault.{StepFault}
use Rattle.rbc_centre.specs.declared.fault.StepFault.TheVariants.{Memory}
use Rattle.rbc_centre.specs.States.{line_of, number_of, state_of}
use Rattle.rbc_log.specs.declared.fault.CommitFault.TheVariants.{Step}
use Rattle.rbc_log.specs.Log.{IsRefusal, LogValue, MayCommit, most_entries}
use Rattle.rbc_spec.specs.Step.{Event, refusal}

-- if the centre refuses the event, the fault of the log is that refusal
pub refused_as : (l : LogValue) (event : Event) (f : StepFault) → length l.entries < most_entries
    → IsRefusalOf f (refusal (line_of l.core) (number_of l.core) (state_of l.core) event)
    → IsRefusal l event (Step f)
refused_as l event f room is = (room, refused_step (line_of l.core) (number_of l.core) (state_of l.core) event f is)

-- if memory runs out, the centre does not refuse the event
pub no_memory : (l : LogValue) (event : Event) → length l.entries < most_entries
    → refusal (line_of l.core) (number_of l.core) (state_of l.core) event ≡ None → IsRefusal l event (Step Memory)
no_memory l event room none =
    (room, rw (taken_step (line_of l.core) (number_of l.core) (state_of l.core) event none) refl)

-- the same, by the test of the log
pub lacks_memory : (l : LogValue) (event : Event) → MayCommit l event → IsRefusal l event (Step Memory)
lacks_memory l event may = no_memory l event may.room may.allowed
