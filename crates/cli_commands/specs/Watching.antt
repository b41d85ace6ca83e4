-- The end of a monitor, and the result of `watch`.
use Rattle.std.specs.Prelude.{◌≡◌, Bool, Err, List, nat_lt, None, Ok, Option, Result, Some, ⊤, ℕ}
use Rattle.cli_commands.specs.declared.watch.Ending.{Ending}
use Rattle.cli_commands.specs.declared.watch.Ending.TheVariants.{Danger, Memory, Row}
use Rattle.law_outside.specs.Outside.{View}
use Rattle.rbc_spec.specs.Line.{Line}
use Rattle.rbc_watch.specs.Dangers.{Breaks}
use Rattle.rbc_watch.specs.declared.fault.WatchFault.{WatchFault}
use Rattle.rbc_watch.specs.declared.fault.WatchFault.TheVariants as watched
use Rattle.text_script.specs.declared.status.fault.Fault.{Fault}
use Rattle.text_script.specs.declared.status.fault.Fault.TheVariants as fault
use Rattle.text_script.specs.rbc_centre.declared.fault.StepFault.TheVariants as refused

-- the end by the fault of a monitor
abbrev pub ending_of : WatchFault → Ending
ending_of watched.Memory = Memory
ending_of (watched.Broken danger) = Danger danger

-- the danger is there in the view, unless memory ran out
abbrev pub IsDanger : Line → View → Ending → Type 0
IsDanger line v Memory = ⊤
IsDanger line v (Danger danger) = Breaks line v danger
IsDanger line v (Row cause) = ⊥

-- The result by the end of the monitor. Only without a danger it is a success, and it is then whether an event was
-- read. A danger is a difference, and a refused line a print that can't be read. Or the writer refused a write.
abbrev pub Watches : Option Ending → ℕ → List ℕ → Result Bool Fault → Type 0
Watches None events printed (Ok has_event) = has_event ≡ nat_lt 0 events
Watches (Some (Danger danger)) events printed (Err fault.Differs) = Unit {0}
Watches (Some (Row cause)) events printed (Err (fault.CannotRead name)) = name.now ≡ printed
Watches (Some Memory) events printed (Err (fault.Step refused.Memory)) = Unit {0}
Watches ending events printed (Err fault.Write) = Unit {0}
Watches ending events printed result = ⊥
