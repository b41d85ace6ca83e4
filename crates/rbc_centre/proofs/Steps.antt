-- The whole step of a centre.
use Rattle.std.proofs.Common.{[], ◌++◌, ◌+◌, ◌∙◌, ◌≡◌, ◌≤◌, ◌⊎◌, ap, Bool, Err, false, if◌then◌else◌, inl, inr, length}
use Rattle.std.proofs.Common.{List, nat_lt, None, Ok, Option, refl, Result, Some, sym, true, ℕ}
use Rattle.std.proofs.lemmas.Bool.{ltb-false}
use Rattle.std.proofs.lemmas.List.{length-map}
use Rattle.std.specs.Result.{IfErr, OnOk}
use Rattle.rbc_book.specs.Book.{Pages}
use Rattle.rbc_centre.specs.Answer.{IsRefusal, IsRefusalOf}
use Rattle.rbc_centre.specs.declared.desk.Desk.{Desk}
use Rattle.rbc_centre.specs.declared.event.Event.{Event as EventCode}
use Rattle.rbc_centre.specs.declared.event.Event.TheVariants as code
use Rattle.rbc_centre.specs.declared.fault.StepFault.{StepFault}
use Rattle.rbc_centre.specs.declared.fault.StepFault.TheVariants as fault
use Rattle.rbc_centre.specs.State.{stands_for}
use Rattle.rbc_centre.specs.Views.{event_of}
use Rattle.rbc_link.proofs.Posted.{posted_none}
use Rattle.rbc_link.specs.declared.link.Link.{Link}
use Rattle.rbc_link.specs.Links.{KeepsLinks, sent_to}
use Rattle.rbc_link.specs.Outgoing.{frame_by, frames_by}
use Rattle.rbc_link.specs.Posted.{HasPosted}
use Rattle.rbc_linkmsg.specs.Bodies.{body_of}
use Rattle.rbc_linkmsg.specs.declared.body.Body.{Body}
use Rattle.rbc_msgs.specs.TrainText.{TrainText}
use Rattle.rbc_spec.specs.Acts.{Reply}
use Rattle.rbc_spec.specs.Centre as centre
use Rattle.rbc_spec.specs.Frame.{Body as BodySent, Frame, last_stamp}
use Rattle.rbc_spec.specs.Line.{Line}
use Rattle.rbc_spec.specs.Outcome.{Outcome, Reason, Saying, Taken, Word}
use Rattle.rbc_spec.specs.Step as step
use Rattle.rbc_spec.specs.Step.{Effect, Event, numbered, Set, Unset}
use Rattle.rbc_train.specs.declared.train.TrainState.{TrainState}

-- ## The plain data of a centre's parts

-- a clock that ticks changes nothing else
pub ticked_is : (line : Line) (c old clock : ℕ) (pages : Pages) (desk : Desk) (links : List (Link Body))
    (states : List TrainState)
    → step.ticked clock (stands_for line c old pages desk links states)
    ≡ stands_for line c clock pages desk links states
unfolding stands_for
ticked_is line c old clock pages desk links states = refl

-- links that differ only in their room have the same plain data
pub stands_kept : (line : Line) (c clock : ℕ) (pages : Pages) (desk : Desk) (old new : List (Link Body))
    (states : List TrainState) → KeepsLinks old new
    → stands_for line c clock pages desk new states ≡ stands_for line c clock pages desk old states
unfolding stands_for
stands_kept line c clock pages desk old new states keeps = λ i. record (stands_for line c clock pages desk old states) {
  sent = λ d. ap (frames_by body_of) (keeps.sent d) i;
  taken = λ d. keeps.taken d i;
}

-- ## The effect of an event

-- a reply with this state, these bodies to each centre, and these messages and replies
abbrev pub replied : centre.Centre → (ℕ → List BodySent) → List Saying → List Word → Reply
replied k bodies sayings words = record { state = k; frames = bodies; sayings = sayings; words = words }

abbrev pub effect_of : Reply → Option Taken → Option Reason → Effect
effect_of reply link silence = record { reply = reply; link = link; silence = silence }

abbrev pub outcome_with : ℕ → (ℕ → List Frame) → List Saying → List Word → Option Taken → Option Reason → Outcome
outcome_with stamp frames sayings words link silence =
    record { stamp = stamp; sayings = sayings; frames = frames; words = words; link = link; silence = silence }

module _ (line : Line) (c before clock : ℕ) (old_book new_book : Pages) (old_desk new_desk : Desk)
    (old mid new : List (Link Body)) (old_states new_states : List TrainState)
    (bodies : ℕ → List BodySent) (event : Event) where
  abbrev k : centre.Centre
  k = stands_for line c before old_book old_desk old old_states

  abbrev left : centre.Centre
  left = stands_for line c clock new_book new_desk new new_states

  -- as many frames were sent before as the links have, also after an event that a link has taken
  counted : ((d : ℕ) → sent_to mid d ≡ sent_to old d) → (d : ℕ) → length (sent_to mid d) ≡ length (k.sent d)
  unfolding stands_for
  counted same d = ap length (same d) ∙ sym (length-map (sent_to old d) (frame_by body_of))

  -- the outcome of the code, and its new state, are those of the step: nothing was sent in between
  pub answers : step.stamp_of k event ≡ clock → ((d : ℕ) → sent_to mid d ≡ sent_to old d)
      → HasPosted body_of clock bodies mid new
      → (sayings : List Saying) (words : List Word) (link : Option Taken) (silence : Option Reason)
      → step.effect line c (step.ticked clock k) event
      ≡ effect_of (replied (stands_for line c clock new_book new_desk mid new_states) bodies sayings words) link silence
      → (frames : ℕ → List Frame) → ((d : ℕ) → frames d ≡ numbered clock (length (sent_to mid d)) (bodies d))
      → (outcome : Outcome) → outcome ≡ outcome_with clock frames sayings words link silence
      → (outcome, left) ≡ step.taken line c event k
  unfolding stands_for
  answers stamp same posted sayings words link silence effect frames numbers outcome is =
      let frames_are : (d : ℕ) → frames d ≡ numbered clock (length (k.sent d)) (bodies d) =
      λ d. numbers d ∙ ap (λ n. numbered clock n (bodies d)) (counted same d) in
      let sent_are : (d : ℕ)
      → frames_by body_of (sent_to new d) ≡ k.sent d ++ numbered clock (length (k.sent d)) (bodies d) =
      λ d. posted.sent d ∙ (λ i. frames_by body_of (same d i) ++ numbered clock (counted same d i) (bodies d)) in
      ap (λ (o : Outcome). (o, left)) is
      ∙ (λ i. (
        outcome_with clock (λ d. frames_are d i) sayings words link silence,
        record left { sent = λ d. sent_are d i; taken = λ d. posted.taken d i },
      ))
      ∙ ap (λ (e : Effect). (step.outcome_of clock k e, step.state_after clock k e)) (sym effect)
      ∙ ap
      (λ n. (
        step.outcome_of n k (step.effect line c (step.ticked n k) event),
        step.state_after n k (step.effect line c (step.ticked n k) event),
      )) (sym stamp)

-- a step that sends nothing
module _ (line : Line) (c before clock : ℕ) (old_book new_book : Pages) (old_desk new_desk : Desk)
    (links mid : List (Link Body)) (old_states new_states : List TrainState) (event : Event) where
  pub says : step.stamp_of (stands_for line c before old_book old_desk links old_states) event ≡ clock
      → ((d : ℕ) → sent_to mid d ≡ sent_to links d)
      → (sayings : List Saying) (words : List Word) (link : Option Taken) (silence : Option Reason)
      → step.effect line c (step.ticked clock (stands_for line c before old_book old_desk links old_states)) event
      ≡ effect_of (replied (stands_for line c clock new_book new_desk mid new_states) (λ d. []) sayings words)
      link silence
      → (outcome : Outcome) → outcome ≡ outcome_with clock (λ d. []) sayings words link silence
      → (outcome, stands_for line c clock new_book new_desk mid new_states)
      ≡ step.taken line c event (stands_for line c before old_book old_desk links old_states)
  says stamp same sayings words link silence effect outcome is =
      answers line c before clock old_book new_book old_desk new_desk links mid mid old_states new_states (λ d. [])
      event stamp same (posted_none body_of clock mid)
      sayings words link silence effect (λ d. []) (λ d. refl) outcome is

-- an event of the interlocking
module _ (line : Line) (c clock : ℕ) (old_book new_book : Pages) (desk : Desk) (links : List (Link Body))
    (old_states new_states : List TrainState)
    (sayings : List Saying) (words : List Word) (outcome : Outcome) (s : ℕ)
    (is : outcome ≡ outcome_with (clock + 1) (λ d. []) sayings words None None) where
  abbrev at : centre.Centre
  at = stands_for line c clock old_book desk links old_states

  abbrev later : centre.Centre
  later = stands_for line c (clock + 1) old_book desk links old_states

  is_later : step.ticked (clock + 1) at ≡ later
  is_later = ticked_is line c clock (clock + 1) old_book desk links old_states

  pub set_stands : replied (stands_for line c (clock + 1) new_book desk links new_states) (λ d. []) sayings words
      ≡ step.set line c s later
      → (outcome, stands_for line c (clock + 1) new_book desk links new_states) ≡ step.taken line c (Set s) at
  unfolding stands_for
  set_stands r =
      says line c clock (clock + 1) old_book new_book desk desk links links old_states new_states (Set s) refl
      (λ d. refl) sayings words None None
      (ap (λ (x : Reply). effect_of x None None) (ap (step.set line c s) is_later ∙ sym r)) outcome is

  pub unset_stands : replied (stands_for line c (clock + 1) new_book desk links new_states) (λ d. []) sayings words
      ≡ step.unset line c s later
      → (outcome, stands_for line c (clock + 1) new_book desk links new_states) ≡ step.taken line c (Unset s) at
  unfolding stands_for
  unset_stands r =
      says line c clock (clock + 1) old_book new_book desk desk links links old_states new_states (Unset s) refl
      (λ d. refl) sayings words None None
      (ap (λ (x : Reply). effect_of x None None) (ap (step.unset line c s) is_later ∙ sym r)) outcome is

-- ## Whether an event is refused

tests_of : (a b : Bool) → (if a then Some step.ClockEnd else (if b then Some step.LinkFull else None)) ≡ None
    → (a ≡ false) × (b ≡ false)
tests_of true b h = cc
tests_of false true h = cc
tests_of false false h = (refl, refl)

-- an event that is not refused has a stamp, and no link is full
pub allowed : (line : Line) (c : ℕ) (k : centre.Centre) (event : Event) → step.refusal line c k event ≡ None
    → (step.stamp_of k event ≤ last_stamp) × (step.has_full_link line c k ≡ false)
allowed line c k event none =
    let tests = tests_of (nat_lt last_stamp (step.stamp_of k event)) (step.has_full_link line c k) none in
    (ltb-false last_stamp (step.stamp_of k event) tests.0, tests.1)

pub taken_step : (line : Line) (c : ℕ) (k : centre.Centre) (event : Event) → step.refusal line c k event ≡ None
    → step.step line c event k ≡ Ok (step.taken line c event k)
unfolding step.step
taken_step line c k event none = rw none refl

pub refused_step : (line : Line) (c : ℕ) (k : centre.Centre) (event : Event) (f : StepFault)
    → IsRefusalOf f (step.refusal line c k event) → IsRefusal f (step.step line c event k)
unfolding step.step
refused_step line c k event fault.Memory is = absurd is
refused_step line c k event fault.LinkFull is = rw is refl
refused_step line c k event fault.ClockEnd is = rw is refl

-- the answer for all events with this stamp is that for one of them
pub ok_allowed : {T : Type 0} (line : Line) (c : ℕ) (k : centre.Centre) (event : Event) (stamp : ℕ)
    → step.stamp_of k event ≡ stamp + 1 → (r : Result T StepFault)
    → OnOk r ((e : Event) → step.stamp_of k e ≡ stamp + 1 → step.refusal line c k e ≡ None)
    → OnOk r (step.refusal line c k event ≡ None)
ok_allowed line c k event stamp is (Ok x) each = each event is
ok_allowed line c k event stamp is (Err f) each = tt

pub err_refused : {T : Type 0} (line : Line) (c : ℕ) (k : centre.Centre) (event : Event) (stamp : ℕ)
    → step.stamp_of k event ≡ stamp + 1 → (r : Result T StepFault)
    → IfErr r (λ f. (e : Event) → step.stamp_of k e ≡ stamp + 1 → IsRefusalOf f (step.refusal line c k e))
    → IfErr r (λ f. IsRefusalOf f (step.refusal line c k event))
err_refused line c k event stamp is (Ok x) each = tt
err_refused line c k event stamp is (Err f) each = each event is

-- the stamp before that of an event that brings no frame
pub next_stamp : (k : centre.Centre) (event : EventCode)
    → ((m : TrainText) × (event ≡ code.Train m))
    ⊎ (((s : ℕ) × (event ≡ code.Set s)) ⊎ ((s : ℕ) × (event ≡ code.Unset s)))
    → step.stamp_of k (event_of event) ≡ k.clock + 1
next_stamp k event (inl is) = ap (λ (e : EventCode). step.stamp_of k (event_of e)) is.1
next_stamp k event (inr (inl is)) = ap (λ (e : EventCode). step.stamp_of k (event_of e)) is.1
next_stamp k event (inr (inr is)) = ap (λ (e : EventCode). step.stamp_of k (event_of e)) is.1
