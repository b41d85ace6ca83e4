-- The step's definition, seen from the code.
use Rattle.std.specs.Prelude.{◌+◌, ◌≡◌, ◌⊎◌, Err, IsOk, Ok, Option, Result, Some, true, ℕ}
use Rattle.rbc_centre.specs.declared.fault.StepFault.{StepFault}
use Rattle.rbc_centre.specs.declared.fault.StepFault.TheVariants.{ClockEnd, LinkFull, Memory}
use Rattle.rbc_spec.specs.Centre.{Centre, Out}
use Rattle.rbc_spec.specs.Message.{InitiationOfSession}
use Rattle.rbc_spec.specs.Step as step
use Rattle.rbc_train.specs.Letters.{tells_others}

-- The fault is the refusal of the definition. If memory runs out, the definition does not refuse the step.
abbrev pub IsRefusal : {Y : Type 0} → StepFault → Result Y step.Refusal → Type 0
IsRefusal Memory r = IsOk r
IsRefusal LinkFull r = r ≡ Err step.LinkFull
IsRefusal ClockEnd r = r ≡ Err step.ClockEnd

-- the fault is this refusal, and never that memory ran out
abbrev pub IsRefusalOf : StepFault → Option step.Refusal → Type 0
IsRefusalOf Memory r = ⊥
IsRefusalOf LinkFull r = r ≡ Some step.LinkFull
IsRefusalOf ClockEnd r = r ≡ Some step.ClockEnd

-- the result of a step, seen by `view`, is that of the definition
abbrev pub Steps : {X Y : Type 0} → (X → Y) → Result X StepFault → Result Y step.Refusal → Type 0
Steps view (Ok x) r = r ≡ Ok (view x)
Steps view (Err fault) r = IsRefusal fault r

-- Memory is needed in three cases. A train opens a session; an unset is of a section that is out; or another centre may
-- get a frame. The last is by a train's message, or by a frame that is the next of its sender.
abbrev pub TakesMemory : Centre → step.Event → Type 0
TakesMemory k (step.Train m) = (m.body ≡ InitiationOfSession) ⊎ (tells_others m.body ≡ true)
TakesMemory k (step.Unset s) = (t : ℕ) × (k.book s ≡ Out t)
TakesMemory k (step.Deliver from frame) = frame.number ≡ k.taken from + 1
TakesMemory k event = ⊥

abbrev pub IsWantedBy : {X : Type 0} → Centre → step.Event → Result X StepFault → Type 0
IsWantedBy k event (Err Memory) = TakesMemory k event
IsWantedBy k event result = Unit {0}
