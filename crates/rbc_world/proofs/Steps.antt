-- The state of a world before and after a step.
use Rattle.std.proofs.Common.{◌<◌, ◌∙◌, ◌≡◌, ◌≤◌, ap, arith, Err, false, length, List, None, Ok, Option, refl}
use Rattle.std.proofs.Common.{Result, set, slice_get, Some, sym, true, ℕ}
use Rattle.std.proofs.lemmas.Bool.Decides.{nat_tests}
use Rattle.std.specs.Option.{option_map_or}
use Rattle.std.specs.Result.{IfOk}
use Rattle.law_reached.proofs.Known.{goes, promises}
use Rattle.law_reached.proofs.Missions.{forced}
use Rattle.rbc_centre.specs.Answer as one_step
use Rattle.rbc_centre.specs.declared.centre.Centre.{Centre}
use Rattle.rbc_centre.specs.declared.fault.StepFault.{StepFault}
use Rattle.rbc_centre.specs.declared.fault.StepFault.TheVariants.{ClockEnd, LinkFull, Memory}
use Rattle.rbc_centre.specs.States as one
use Rattle.rbc_msgs.specs.declared.fault.MsgFault.{MsgFault}
use Rattle.rbc_msgs.specs.Faults.{fault_number}
use Rattle.rbc_msgs.specs.StepMessage.{step_message}
use Rattle.rbc_msgs.specs.TrainText.{TrainText}
use Rattle.rbc_spec.specs.Frame.{Frame}
use Rattle.rbc_spec.specs.Line.{is_centre, IsLine, Line}
use Rattle.rbc_spec.specs.Message.{TrainMessage}
use Rattle.rbc_spec.specs.Outcome.{Outcome}
use Rattle.rbc_spec.specs.Promises.{KeepsPromises}
use Rattle.rbc_spec.specs.ReadOff.{read_off}
use Rattle.rbc_spec.specs.Run.{Goes}
use Rattle.rbc_spec.specs.Step as step
use Rattle.rbc_spec.specs.Theorems.{GoesForced, IsOneCentreLine}
use Rattle.rbc_spec.specs.World.{Answer, Answered, at_centre as told_at, Bytes, Delivery, Fault, frame_sent, mention}
use Rattle.rbc_spec.specs.World.{NoCentre, NotSent, reads, Set, stepped, takes, Unset, World, world_step}
use Rattle.rbc_world.proofs.Centres.{centre_at, centres_of-kept, centres_of-set}
use Rattle.rbc_world.proofs.Known.{world_known, world_local}
use Rattle.rbc_world.specs.Answers.{Gives, IsRefusal}
use Rattle.rbc_world.specs.declared.event.WorldEvent.{WorldEvent}
use Rattle.rbc_world.specs.Reached.{WasReached}
use Rattle.rbc_world.specs.States.{centres_of, stands_for}
use Rattle.rbc_world.specs.Views.{event_of, numbered}

-- ## An event that centre c takes

module _ (line : Line) (cs : List Centre) (trains : List ℕ) (event : step.Event) (c : ℕ) (k new : Centre)
    (at : slice_get cs c ≡ Some k) (within : c < length cs)
    (of_line : one.line_of k ≡ line) (of_number : one.number_of k ≡ c) where
  -- the step of the definition is that of the centre
  same_step : step.step line c event ((stands_for line cs trains).at c)
      ≡ step.step (one.line_of k) (one.number_of k) event (one.state_of k)
  unfolding stands_for
  same_step =
      ap (λ l. step.step l c event (centres_of line cs c)) (sym of_line)
      ∙ ap (λ n. step.step (one.line_of k) n event (centres_of line cs c)) (sym of_number)
      ∙ ap (step.step (one.line_of k) (one.number_of k) event) (centre_at line cs c k at)

  pub step_ok : (outcome : Outcome) (named after : List ℕ)
      → step.step (one.line_of k) (one.number_of k) event (one.state_of k) ≡ Ok (outcome, one.state_of new)
      → after ≡ named
      → takes line (stands_for line cs trains) c named event
      ≡ Ok (Answered outcome, stands_for line (set cs c new) after)
  unfolding stands_for
  step_ok outcome named after s same =
      ap (stepped (stands_for line cs trains) c named) (same_step ∙ s)
      ∙ (λ i.
      Ok (Answered outcome, record { at = λ d. sym (centres_of-set line cs c new within d) i; trains = sym same i }))

  pub step_err : (named : List ℕ) (fault : StepFault)
      → one_step.IsRefusal fault (step.step (one.line_of k) (one.number_of k) event (one.state_of k))
      → IsRefusal fault (takes line (stands_for line cs trains) c named event)
  step_err named Memory never = tt
  step_err named LinkFull s = ap (stepped (stands_for line cs trains) c named) (same_step ∙ s)
  step_err named ClockEnd s = ap (stepped (stands_for line cs trains) c named) (same_step ∙ s)

pub world_kept : (line : Line) (cs : List Centre) (trains : List ℕ) (c : ℕ) (k new : Centre) → slice_get cs c ≡ Some k
    → c < length cs → one.state_of new ≡ one.state_of k
    → stands_for line (set cs c new) trains ≡ stands_for line cs trains
unfolding stands_for
world_kept line cs trains c k new at within same =
    λ i. record { at = λ d. centres_of-kept line cs c k new at within same d i; trains = trains }

-- ## Bytes, sets and unsets

pub is_centre_within : (line : Line) (cs : List Centre) (c : ℕ) → length cs ≡ length line.centres → c < length cs
    → is_centre line c ≡ true
is_centre_within line cs c each within = grind (arith, nat_tests)

is_centre_past : (line : Line) (cs : List Centre) (c : ℕ) → length cs ≡ length line.centres → length cs ≤ c
    → is_centre line c ≡ false
is_centre_past line cs c each past = grind (arith, nat_tests)

pub no_centre : (line : Line) (w : World) (cs : List Centre) (c : ℕ) (read : Result TrainMessage ℕ)
    → length cs ≡ length line.centres → length cs ≤ c → world_step line w (Bytes c read) ≡ Ok (NoCentre, w)
unfolding world_step
no_centre line w cs c read each past = rw (is_centre_past line cs c each past) refl

pub at_centre : (line : Line) (w : World) (cs : List Centre) (c : ℕ) (read : Result TrainMessage ℕ)
    → length cs ≡ length line.centres → c < length cs → world_step line w (Bytes c read) ≡ reads line w c read
unfolding world_step
at_centre line w cs c read each within = rw (is_centre_within line cs c each within) refl

told_within : (line : Line) (w : World) (cs : List Centre) (c : ℕ) (named : List ℕ) (event : step.Event)
    → length cs ≡ length line.centres → c < length cs
    → told_at line w c (takes line w c named event) ≡ takes line w c named event
told_within line w cs c named event each within = rw (is_centre_within line cs c each within) refl

module _ (line : Line) (cs : List Centre) (trains : List ℕ) (event : step.Event) (c : ℕ) (k new : Centre)
    (at : slice_get cs c ≡ Some k) (within : c < length cs)
    (of_line : one.line_of k ≡ line) (of_number : one.number_of k ≡ c) (each : length cs ≡ length line.centres) where
  pub told_ok : (outcome : Outcome) (named after : List ℕ)
      → step.step (one.line_of k) (one.number_of k) event (one.state_of k) ≡ Ok (outcome, one.state_of new)
      → after ≡ named
      → told_at line (stands_for line cs trains) c (takes line (stands_for line cs trains) c named event)
      ≡ Ok (Answered outcome, stands_for line (set cs c new) after)
  told_ok outcome named after s same =
      told_within line (stands_for line cs trains) cs c named event each within
      ∙ step_ok line cs trains event c k new at within of_line of_number outcome named after s same

  pub told_err : (named : List ℕ) (fault : StepFault)
      → one_step.IsRefusal fault (step.step (one.line_of k) (one.number_of k) event (one.state_of k))
      → IsRefusal fault (told_at line (stands_for line cs trains) c
      (takes line (stands_for line cs trains) c named event))
  told_err named fault s =
      rw (told_within line (stands_for line cs trains) cs c named event each within)
      (step_err line cs trains event c k new at within of_line of_number named fault s)

pub set_told : (line : Line) (w : World) (c s : ℕ)
    → world_step line w (Set c s) ≡ told_at line w c (takes line w c w.trains (step.Set s))
unfolding world_step
set_told line w c s = refl

pub unset_told : (line : Line) (w : World) (c s : ℕ)
    → world_step line w (Unset c s) ≡ told_at line w c (takes line w c w.trains (step.Unset s))
unfolding world_step
unset_told line w c s = refl

-- ## Bytes that were read

pub bytes_told : (line : Line) (w : World) (c : ℕ) (m : TrainMessage)
    → world_step line w (Bytes c (Ok m))
    ≡ told_at line w c (takes line w c (mention line m.nid_engine w.trains) (step.Train m))
unfolding world_step
bytes_told line w c m = refl

pub message_step : (line : Line) (w : World) (c : ℕ) (read : Result TrainText MsgFault) (m : TrainText) → read ≡ Ok m
    → world_step line w (Bytes c (numbered read))
    ≡ told_at line w c (takes line w c (mention line m.nid_engine w.trains) (step.Train (step_message m)))
message_step line w c read m e =
    ap (λ r. world_step line w (Bytes c (numbered r))) e ∙ bytes_told line w c (step_message m)

pub fault_step : (line : Line) (w : World) (cs : List Centre) (c : ℕ) (read : Result TrainText MsgFault)
    (fault : MsgFault) → length cs ≡ length line.centres → c < length cs → read ≡ Err fault
    → world_step line w (Bytes c (numbered read)) ≡ Ok (Fault (fault_number fault), w)
fault_step line w cs c read fault each within e =
    at_centre line w cs c (numbered read) each within ∙ ap (λ r. reads line w c (numbered r)) e

-- ## Deliveries

-- a frame that was sent is delivered to its receiver, which is a centre of the line
pub delivered : (line : Line) (w : World) (from to number : ℕ) (f : Frame) → is_centre line to ≡ true
    → frame_sent w from to number ≡ Some f
    → world_step line w (Delivery from to number) ≡ told_at line w to (takes line w to w.trains (step.Deliver from f))
unfolding world_step
delivered line w from to number f here sent =
    rw here
    (ap (λ (o : Option Frame). option_map_or (λ g. takes line w to w.trains (step.Deliver from g)) o (Ok (NotSent, w)))
    sent)

pub not_sent : (line : Line) (w : World) (from to number : ℕ) → frame_sent w from to number ≡ None
    → world_step line w (Delivery from to number) ≡ Ok (NotSent, w)
unfolding world_step
not_sent line w from to number none =
    ap (λ (o : Option Frame). option_map_or (λ g. takes line w to w.trains (step.Deliver from g)) o (Ok (NotSent, w)))
    none

-- ## The piece, after the events that led to the world

module _ {X : Type 0} (answer : X → Answer) (line : Line) (ok : IsLine line) (w new : World) (e : WorldEvent)
    (reached : ∥ WasReached line w ∥₁) where
  -- the result of the definition of a world's step
  abbrev Steps : Result X StepFault → Type 0
  Steps result = Gives (λ x. (answer x, new)) result (world_step line w (event_of e))

  pub step_piece : (result : Result X StepFault) → Steps result
      → IfOk result (λ x. Goes line (read_off line w) (event_of e) (answer x) (read_off line new))
  step_piece (Ok x) s = goes line w (world_known line w ok reached) ok new (event_of e) (answer x) s
  step_piece (Err fault) s = tt

  -- the promises of the event are kept
  pub step_promises : (result : Result X StepFault) → Steps result
      → IfOk result (λ x. KeepsPromises line w (event_of e) (answer x) new)
  step_promises (Ok x) s = promises line w (world_known line w ok reached) ok new (event_of e) (answer x) s
  step_promises (Err fault) s = tt

  -- on a one-centre line it leaves no choice
  pub step_forced : (d : ℕ) → IsOneCentreLine line d → (result : Result X StepFault) → Steps result
      → IfOk result (λ x. GoesForced line (read_off line w) (event_of e) (answer x) (read_off line new))
  step_forced d one (Ok x) s =
      forced line ok d one w (world_known line w ok reached) (world_local line w ok reached d one) (event_of e)
      (answer x) new s
  step_forced d one (Err fault) s = tt
