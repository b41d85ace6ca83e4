-- The cases in which a train's bytes at a centre of the line need memory.
use Rattle.std.proofs.Common.{◌+◌, ◌<◌, ◌≡◌, Err, inl, inr, length, List, Ok, Option, Result, slice_get, Some}
use Rattle.std.proofs.Common.{subst, true, ℕ}
use Rattle.rbc_centre.specs.Answer.{IsWantedBy, TakesMemory}
use Rattle.rbc_centre.specs.declared.centre.Centre.{Centre}
use Rattle.rbc_centre.specs.declared.event.Event.{Event as CentreEvent}
use Rattle.rbc_centre.specs.declared.event.Event.TheVariants as told
use Rattle.rbc_centre.specs.declared.fault.StepFault.{StepFault}
use Rattle.rbc_centre.specs.declared.fault.StepFault.TheVariants.{ClockEnd, LinkFull, Memory}
use Rattle.rbc_centre.specs.States as one
use Rattle.rbc_centre.specs.Views.{event_of as one_event}
use Rattle.rbc_msgs.specs.declared.fault.MsgFault.{MsgFault}
use Rattle.rbc_msgs.specs.StepMessage.{step_message}
use Rattle.rbc_msgs.specs.TrainText.{TrainText}
use Rattle.rbc_spec.specs.Centre as centre
use Rattle.rbc_spec.specs.Frame.{Frame}
use Rattle.rbc_spec.specs.Line.{is_centre, Line}
use Rattle.rbc_spec.specs.World.{World}
use Rattle.rbc_world.proofs.Shown.{seen_at}
use Rattle.rbc_world.proofs.Steps.{is_centre_within}
use Rattle.rbc_world.specs.Answers.{BytesTakeMemory, EventTakesMemory, IfWanted, MakesRoom}
use Rattle.rbc_world.specs.States.{stands_for}

-- a step writes its answer in place
abbrev Stepped : Type 0
Stepped = Unit {0}

-- a step of centre c
pub step_wants : (line : Line) (cs : List Centre) (trains : List ℕ) (c : ℕ) (k : Centre) → slice_get cs c ≡ Some k
    → (event : CentreEvent) (fault : StepFault)
    → IsWantedBy {X = Unit {0}} (one.state_of k) (one_event event) (Err fault)
    → IfWanted {X = Unit {0}} (Err fault) (EventTakesMemory line (stands_for line cs trains) c event)
step_wants line cs trains c k at event Memory h =
    inl (subst (λ (x : centre.Centre). TakesMemory x (one_event event)) (seen_at line cs trains c (λ x. x) k at) h)
step_wants line cs trains c k at event LinkFull h = tt
step_wants line cs trains c k at event ClockEnd h = tt

module _ (line : Line) (w : World) (c : ℕ) where
  -- a frame that was sent
  pub delivery_wants : (from : ℕ) (f : Frame) (sent : Option Frame) (result : Result Stepped StepFault)
      → sent ≡ Some f → IfWanted result (EventTakesMemory line w c (told.Deliver from f))
      → IfWanted result ((g : Frame) × (sent ≡ Some g) × (g.number ≡ (w.at c).taken from + 1))
  delivery_wants from f sent (Ok a) is h = tt
  delivery_wants from f sent (Err Memory) is (inl h) = (f, is, h)
  delivery_wants from f sent (Err Memory) is (inr never) = absurd never
  delivery_wants from f sent (Err LinkFull) is h = tt
  delivery_wants from f sent (Err ClockEnd) is h = tt

  -- a section that is released needs none
  pub set_wants : (s : ℕ) (result : Result Stepped StepFault)
      → IfWanted result (EventTakesMemory line w c (told.Set s)) → IfWanted result ⊥
  set_wants s (Ok a) h = tt
  set_wants s (Err Memory) (inl never) = never
  set_wants s (Err Memory) (inr never) = never
  set_wants s (Err LinkFull) h = tt
  set_wants s (Err ClockEnd) h = tt

  -- a section that is taken back
  pub unset_wants : (s : ℕ) (result : Result Stepped StepFault)
      → IfWanted result (EventTakesMemory line w c (told.Unset s))
      → IfWanted result ((t : ℕ) × ((w.at c).book s ≡ centre.Out t))
  unset_wants s (Ok a) h = tt
  unset_wants s (Err Memory) (inl h) = h
  unset_wants s (Err Memory) (inr never) = absurd never
  unset_wants s (Err LinkFull) h = tt
  unset_wants s (Err ClockEnd) h = tt

module _ (line : Line) (cs : List Centre) (trains : List ℕ) (c : ℕ) (read : Result TrainText MsgFault)
    (each : length cs ≡ length line.centres) (within : c < length cs) where
  -- by the message that they spell
  pub heard_wants : (m : TrainText) (result : Result Stepped StepFault) → read ≡ Ok m
      → IfWanted result (MakesRoom line trains (step_message m))
      → IfWanted result ((is_centre line c ≡ true) × BytesTakeMemory line trains read)
  heard_wants m (Ok a) is h = tt
  heard_wants m (Err Memory) is h = (is_centre_within line cs c each within, rw is (inr h))
  heard_wants m (Err LinkFull) is h = tt
  heard_wants m (Err ClockEnd) is h = tt
