-- The events that led to a world go on by one.
use Rattle.std.proofs.Common.{[], ◌++◌, ◌<◌, ◌∙◌, ◌∷◌, ◌≡◌, ap, length, List, Ok, Result, set}
use Rattle.std.proofs.Common.{slice_get, Some, subst, sym, true, ℕ}
use Rattle.std.proofs.Math.Logic.{∥∥₁_map}
use Rattle.law_reached.proofs.Known.{run_of_cons, run_of_none, whole_run}
use Rattle.rbc_centre.specs.declared.centre.Centre.{Centre}
use Rattle.rbc_centre.specs.declared.event.Event.{Event as CentreEvent}
use Rattle.rbc_centre.specs.declared.event.Event.TheVariants as of_centre
use Rattle.rbc_centre.specs.States as one
use Rattle.rbc_centre.specs.Views.{event_of as one_event}
use Rattle.rbc_msgs.specs.StepMessage.{step_message}
use Rattle.rbc_spec.proofs.Worlds.{bind_ok}
use Rattle.rbc_spec.specs.Line.{is_centre, Line}
use Rattle.rbc_spec.specs.Outcome.{Outcome}
use Rattle.rbc_spec.specs.Step as step
use Rattle.rbc_spec.specs.Step.{Refusal}
use Rattle.rbc_spec.specs.World.{Answer, Answered, at_centre as told_at, Bytes, Delivery, Event, new_world}
use Rattle.rbc_spec.specs.World.{Set, takes, Unset, World, world_run, world_step}
use Rattle.rbc_world.proofs.Steps.{bytes_told, delivered, is_centre_within, set_told, told_ok, unset_told}
use Rattle.rbc_world.proofs.Steps.{world_kept}
use Rattle.rbc_world.specs.Named.{mentioned}
use Rattle.rbc_world.specs.Reached.{MayBeTold, WasReached}
use Rattle.rbc_world.specs.States.{stands_for}

of_ok : {X : Type 0} (p q : X) → ◌≡◌ {A = Result X Refusal} (Ok p) (Ok q) → p ≡ q
of_ok p q e = cc

-- one event after those of a run
pub run_on : (line : Line) (events : List Event) (w mid new : World) (answers : List Answer) (event : Event)
    (answer : Answer)
    → world_run line w events ≡ Ok (answers, mid) → world_step line mid event ≡ Ok (answer, new)
    → world_run line w (events ++ event ∷ []) ≡ Ok (answers ++ answer ∷ [], new)
run_on line [] w mid new answers event answer is s =
    let same : ([], w) ≡ (answers, mid) = of_ok ([], w) (answers, mid) (sym (run_of_none line w) ∙ is) in
    let first : world_step line w event ≡ Ok (answer, new) =
    ap (λ (q : List Answer × World). world_step line q.1 event) same ∙ s in
    subst (λ (q : List Answer × World). world_run line w (event ∷ []) ≡ Ok (q.0 ++ answer ∷ [], new)) same
    (whole_run line w event [] (answer, new) (Ok ([], new)) first (run_of_none line new))
run_on line (e ∷ events) w mid new answers event answer is s =
    let first = bind_ok (world_step line w e) _ (answers, mid) (sym (run_of_cons line w e events) ∙ is) in
    let others = bind_ok (world_run line first.0.1 events) _ (answers, mid) first.2 in
    let same : (first.0.0 ∷ others.0.0, others.0.1) ≡ (answers, mid) =
    of_ok (first.0.0 ∷ others.0.0, others.0.1) (answers, mid) others.2 in
    let last : world_step line others.0.1 event ≡ Ok (answer, new) =
    ap (λ (q : List Answer × World). world_step line q.1 event) same ∙ s in
    subst (λ (q : List Answer × World). world_run line w (e ∷ (events ++ event ∷ [])) ≡ Ok (q.0 ++ answer ∷ [], new))
    same
    (whole_run line w e (events ++ event ∷ []) first.0 (Ok (others.0.0 ++ answer ∷ [], new)) first.1
    (run_on line events first.0.1 others.0.1 new others.0.0 event answer others.1 last))

-- no event leads to the beginning
led_to_beginning : (line : Line) (w : World) → w ≡ new_world line → WasReached line w
led_to_beginning line w new = record {
  events = [];
  answers = [];
  run = run_of_none line (new_world line) ∙ ap (λ (v : World). Ok ([], v)) (sym new);
}

pub begins : (line own : Line) (w : World) → own ≡ line → w ≡ new_world line → ∥ WasReached own w ∥₁
begins line own w same new = subst (λ (l : Line). ∥ WasReached l w ∥₁) (sym same) ∣ led_to_beginning line w new ∣₁

-- a step leads on
led_on : (line : Line) (w new : World) (event : Event) (answer : Answer) → world_step line w event ≡ Ok (answer, new)
    → WasReached line w → WasReached line new
led_on line w new event answer s before = record {
  events = before.events ++ event ∷ [];
  answers = before.answers ++ answer ∷ [];
  run = run_on line before.events (new_world line) w new before.answers event answer before.run s;
}

goes_on : (line : Line) (w new : World) (event : Event) (answer : Answer) → world_step line w event ≡ Ok (answer, new)
    → ∥ WasReached line w ∥₁ → ∥ WasReached line new ∥₁
goes_on line w new event answer s before = ∥∥₁_map before (led_on line w new event answer s)

-- an event of a centre of the line leads on
told_on : (line : Line) (w new : World) (c : ℕ) (event : CentreEvent) (answer : Answer) → is_centre line c ≡ true
    → MayBeTold w c event
    → told_at line w c (takes line w c (mentioned line event w.trains) (one_event event)) ≡ Ok (answer, new)
    → ∥ WasReached line w ∥₁ → ∥ WasReached line new ∥₁
told_on line w new c (of_centre.Train m) answer here said s before =
    goes_on line w new (Bytes c (Ok (step_message m))) answer (bytes_told line w c (step_message m) ∙ s) before
told_on line w new c (of_centre.Set n) answer here said s before =
    goes_on line w new (Set c n) answer (set_told line w c n ∙ s) before
told_on line w new c (of_centre.Unset n) answer here said s before =
    goes_on line w new (Unset c n) answer (unset_told line w c n ∙ s) before
told_on line w new c (of_centre.Deliver from frame) answer here sent s before =
    goes_on line w new (Delivery from c sent.0) answer (delivered line w from c sent.0 frame here sent.1 ∙ s) before

-- ## A centre of the world steps

module _ (line : Line) (cs : List Centre) (trains : List ℕ) (c : ℕ) (k new : Centre) (at : slice_get cs c ≡ Some k)
    (within : c < length cs)
    (of_line : one.line_of k ≡ line) (of_number : one.number_of k ≡ c) (each : length cs ≡ length line.centres)
    (before : ∥ WasReached line (stands_for line cs trains) ∥₁) where
  -- a refused step leaves the world that was reached
  pub reached_still : (after : List ℕ) → after ≡ trains → one.state_of new ≡ one.state_of k
      → ∥ WasReached line (stands_for line (set cs c new) after) ∥₁
  reached_still after same kept =
      subst (λ (w : World). ∥ WasReached line w ∥₁)
      (sym (ap (stands_for line (set cs c new)) same ∙ world_kept line cs trains c k new at within kept)) before

  -- after the event of the centre
  pub reached_by : (event : CentreEvent) (outcome : Outcome) (after : List ℕ)
      → MayBeTold (stands_for line cs trains) c event
      → step.step (one.line_of k) (one.number_of k) (one_event event) (one.state_of k) ≡ Ok (outcome, one.state_of new)
      → after ≡ mentioned line event trains → ∥ WasReached line (stands_for line (set cs c new) after) ∥₁
  unfolding stands_for
  reached_by event outcome after said s named =
      told_on line (stands_for line cs trains) (stands_for line (set cs c new) after) c event (Answered outcome)
      (is_centre_within line cs c each within) said
      (told_ok line cs trains (one_event event) c k new at within of_line of_number each outcome
      (mentioned line event trains) after s named) before
