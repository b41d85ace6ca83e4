use Rattle.std.proofs.Common.{◌∙◌, ◌≡◌, ap, None, Ok, subst, sym}
use Rattle.rbc_centre.proofs.centre.Centre.step_allowed.Goals as goal
use Rattle.rbc_centre.proofs.Steps.{taken_step}
use Rattle.rbc_centre.specs.declared.centre.Centre.{Centre}
use Rattle.rbc_centre.specs.declared.event.Event.{Event}
use Rattle.rbc_centre.specs.States.{state_of}
use Rattle.rbc_centre.specs.Views.{event_of}
use Rattle.rbc_spec.specs.Step.{refusal, taken}

-- ## The premises of each event's step

-- a fact of the event, by its kind
not_refused : (k : Centre) {e f : Event} → e ≡ f → refusal k.line k.number (state_of k) (event_of e) ≡ None
    → refusal k.line k.number (state_of k) (event_of f) ≡ None
not_refused k is none = subst (λ (x : Event). refusal k.line k.number (state_of k) (event_of x) ≡ None) is none

pub take-requires : goal.take-requires
take-requires c = record { allowed = not_refused c.args.self.now c.in-Train.is c.requires.allowed }

pub set-requires : goal.set-requires
set-requires c = record { allowed = not_refused c.args.self.now c.in-Set.is c.requires.allowed }

pub unset-requires : goal.unset-requires
unset-requires c = record { allowed = not_refused c.args.self.now c.in-Unset.is c.requires.allowed }

pub deliver-requires : goal.deliver-requires
deliver-requires c = record { allowed = not_refused c.args.self.now c.in-Deliver.is c.requires.allowed }

-- ## Its effect

pub returns-in_ok-take-in-Train-clause-exact : goal.returns-in_ok-take-in-Train-clause-exact
returns-in_ok-take-in-Train-clause-exact c =
    let k = c.args.self.now in
    taken_step k.line k.number (state_of k) (event_of c.args.event.now) c.requires.allowed
    ∙ ap (λ x. Ok x) (ap (λ (e : Event). taken k.line k.number (event_of e) (state_of k)) c.in-Train.is
    ∙ sym c.in_ok-take-in-Train.ensures.exact)

pub returns-in-Set-clause-exact : goal.returns-in-Set-clause-exact
returns-in-Set-clause-exact c =
    let k = c.args.self.now in
    taken_step k.line k.number (state_of k) (event_of c.args.event.now) c.requires.allowed
    ∙ ap (λ x. Ok x) (ap (λ (e : Event). taken k.line k.number (event_of e) (state_of k)) c.in-Set.is
    ∙ sym c.set.ensures.exact)

pub returns-in_ok-unset-in-Unset-clause-exact : goal.returns-in_ok-unset-in-Unset-clause-exact
returns-in_ok-unset-in-Unset-clause-exact c =
    let k = c.args.self.now in
    taken_step k.line k.number (state_of k) (event_of c.args.event.now) c.requires.allowed
    ∙ ap (λ x. Ok x) (ap (λ (e : Event). taken k.line k.number (event_of e) (state_of k)) c.in-Unset.is
    ∙ sym c.in_ok-unset-in-Unset.ensures.exact)

pub returns-in_ok-deliver-in-Deliver-clause-exact : goal.returns-in_ok-deliver-in-Deliver-clause-exact
returns-in_ok-deliver-in-Deliver-clause-exact c =
    let k = c.args.self.now in
    taken_step k.line k.number (state_of k) (event_of c.args.event.now) c.requires.allowed
    ∙ ap (λ x. Ok x) (ap (λ (e : Event). taken k.line k.number (event_of e) (state_of k)) c.in-Deliver.is
    ∙ sym c.in_ok-deliver-in-Deliver.ensures.exact)
