-- The answers of a world's calls, beside their definitions.
use Rattle.std.specs.Prelude.{[], ◌++◌, ◌+◌, ◌∷◌, ◌≡◌, ◌≢◌, ◌⊎◌, Err, List, Ok, Result, Some, true, ℕ}
use Rattle.rbc_centre.specs.Answer as one_step
use Rattle.rbc_centre.specs.declared.event.Event.{Event as CentreEvent}
use Rattle.rbc_centre.specs.declared.fault.StepFault.{StepFault}
use Rattle.rbc_centre.specs.declared.fault.StepFault.TheVariants.{ClockEnd, LinkFull, Memory}
use Rattle.rbc_centre.specs.rbc_train.Letters.{tells_others}
use Rattle.rbc_centre.specs.Views.{event_of}
use Rattle.rbc_msgs.specs.declared.fault.MsgFault.{MsgFault}
use Rattle.rbc_msgs.specs.Kept.{IsAfterPackets, kept_packets}
use Rattle.rbc_msgs.specs.StepMessage.{step_message}
use Rattle.rbc_msgs.specs.TrainReading.{read_train}
use Rattle.rbc_msgs.specs.TrainText.{TrainText}
use Rattle.rbc_spec.specs.Centre.{Out}
use Rattle.rbc_spec.specs.Frame.{Frame}
use Rattle.rbc_spec.specs.Line.{is_centre, Line}
use Rattle.rbc_spec.specs.Message.{InitiationOfSession, TrainMessage}
use Rattle.rbc_spec.specs.Step.{ClockEnd as AtClockEnd, LinkFull as AtLinkFull, Refusal}
use Rattle.rbc_spec.specs.World.{Event, frame_sent, IsRefused, mention, new_world, World}
use Rattle.rbc_world.specs.declared.event.WorldEvent.{WorldEvent}
use Rattle.rbc_world.specs.declared.event.WorldEvent.TheVariants as event
use Rattle.rbc_world.specs.Named.{NamesFirst}

-- while memory suffices, the fault is the refusal of the definition
abbrev pub IsRefusal : {Y : Type 0} → StepFault → Result Y Refusal → Type 0
IsRefusal Memory step = Unit {0}
IsRefusal LinkFull step = step ≡ Err AtLinkFull
IsRefusal ClockEnd step = step ≡ Err AtClockEnd

-- the returned value, seen by `view`, is that of the definition
abbrev pub Gives : {X Y : Type 0} → (X → Y) → Result X StepFault → Result Y Refusal → Type 0
Gives view (Ok x) step = step ≡ Ok (view x)
Gives view (Err fault) step = IsRefusal fault step

-- A message needs room in three cases. It opens a session; another centre may get a frame; or it is the first to name a
-- train of the line.
abbrev pub MakesRoom : Line → List ℕ → TrainMessage → Type 0
MakesRoom line trains m =
    ((m.body ≡ InitiationOfSession) ⊎ (tells_others m.body ≡ true))
    ⊎ (mention line m.nid_engine trains ≡ trains ++ m.nid_engine ∷ [])

-- The bytes of a train need memory in two cases. Their message keeps a packet or needs room; or their fault can be
-- found after a packet.
abbrev pub BytesTakeMemory : Line → List ℕ → Result TrainText MsgFault → Type 0
BytesTakeMemory line trains (Ok m) = (kept_packets m ≢ []) ⊎ MakesRoom line trains (step_message m)
BytesTakeMemory line trains (Err fault) = IsAfterPackets fault

-- An event of a centre needs memory there, or since it is the first to name a train of the line.
abbrev pub EventTakesMemory : Line → World → ℕ → CentreEvent → Type 0
EventTakesMemory line w c event = one_step.TakesMemory (w.at c) (event_of event) ⊎ NamesFirst line event w.trains

-- a frame was sent under this number, and is the next that its receiver takes of its sender
abbrev pub IsNextSent : World → ℕ → ℕ → ℕ → Type 0
IsNextSent w from to number =
    (f : Frame) × (frame_sent w from to number ≡ Some f) × (f.number ≡ (w.at to).taken from + 1)

-- An event needs memory in three cases. It is such bytes at a centre of the line; an unset of a section that is out; or
-- the next frame of its link.
abbrev pub TakesMemory : Line → World → WorldEvent → Type 0
TakesMemory line w (event.Train c bytes) =
    (is_centre line c ≡ true) × BytesTakeMemory line w.trains (read_train bytes.items)
TakesMemory line w (event.Deliver from to number) = IsNextSent w from to number
TakesMemory line w (event.Unset c s) = (t : ℕ) × ((w.at c).book s ≡ Out t)
TakesMemory line w other = ⊥

-- if memory ran out, this holds
abbrev pub IfWanted : {X : Type 0} → Result X StepFault → Type 0 → Type 0
IfWanted (Err Memory) so = so
IfWanted result so = Unit {0}

-- a whole run is refused if memory runs out, or as one of its steps is
abbrev pub IsRefusedRun : Line → List Event → StepFault → Type 0
IsRefusedRun line events Memory = Unit {0}
IsRefusedRun line events LinkFull = IsRefused line (new_world line) events AtLinkFull
IsRefusedRun line events ClockEnd = IsRefused line (new_world line) events AtClockEnd
