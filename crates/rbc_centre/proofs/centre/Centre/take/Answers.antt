use Rattle.std.proofs.Common.{[], ◌+◌, ◌∙◌, ◌≡◌, ap, arith, is_none, None, refl, rules, Some, sym}
use Rattle.rbc_centre.proofs.centre.Centre.take.Goals as goal
use Rattle.rbc_centre.proofs.centre.Centre.take.Goals.{In_default}
use Rattle.rbc_centre.proofs.Kept.{left_by, trains_still}
use Rattle.rbc_centre.proofs.Steps.{effect_of, outcome_with, replied, says, ticked_is}
use Rattle.rbc_centre.proofs.Turns.{heard_early, heard_stamp}
use Rattle.rbc_centre.specs.State.{stands_for}
use Rattle.rbc_centre.specs.States.{state_of}
use Rattle.rbc_msgs.specs.StepMessage.{step_message}
use Rattle.rbc_spec.specs.Centre as centre
use Rattle.rbc_spec.specs.Line.{train_number}
use Rattle.rbc_spec.specs.Outcome.{ForeignEngine, Outcome}
use Rattle.rbc_spec.specs.Step.{effect, taken, ticked, Train}
use Rattle.rbc_train.proofs.Desk.{silent_effect}
use Rattle.rbc_train.proofs.Takes.{foreign_silence}

pub overflow_add-self : goal.overflow_add-self
overflow_add-self c = let early = heard_early c.args.self.now (step_message c.args.message.now) c.requires.allowed in
    search (rules, early)

-- a foreign engine changes nothing but the clock
foreign : (c : In_default) → (
  outcome_with (c.args.self.now.clock + 1) (λ d. []) [] [] None (Some ForeignEngine),
  stands_for c.args.self.now.line c.args.self.now.number (c.args.self.now.clock + 1) c.args.self.now.book
      c.args.self.now.desk c.args.self.now.links c.args.self.now.trains.items,
)
    ≡ taken c.args.self.now.line c.args.self.now.number (Train (step_message c.args.message.now))
    (state_of c.args.self.now)
foreign c =
    let k = c.args.self.now in
    let m = step_message c.args.message.now in
    let now = k.clock + 1 in
    let none : train_number k.line m.nid_engine ≡ None =
    sym (c.train_number.ensures.value ∙ ap (train_number k.line) c.nid_engine.ensures.value) ∙ c.in_default.is in
    let left = stands_for k.line k.number now k.book k.desk k.links k.trains.items in
    let is : effect k.line k.number (ticked now (state_of k)) (Train m)
    ≡ effect_of (replied left (λ d. []) [] []) None (Some ForeignEngine) =
    silent_effect k.line k.number (ticked now (state_of k)) m ForeignEngine
    (foreign_silence k.line k.number (ticked now (state_of k)) m (ap is_none none))
    ∙ ap (λ (x : centre.Centre). effect_of (replied x (λ d. []) [] []) None (Some ForeignEngine))
    (ticked_is k.line k.number k.clock now k.book k.desk k.links k.trains.items) in
    says k.line k.number k.clock now k.book k.book k.desk k.desk k.links k.links k.trains.items k.trains.items (Train m)
    (heard_stamp k m) (λ d. refl) [] [] None (Some ForeignEngine) is _ refl

pub invariant_of-self : goal.invariant_of-self
invariant_of-self c =
    let k = c.args.self.now in
    let m = step_message c.args.message.now in
    record {
      rules =
          left_by k (Train m) (k.clock + 1) k.book k.desk k.sessions k.links k.trains.items _
          (foreign (goal.at.invariant_of-self c).In_default)
          c.requires.allowed (k.rules.of_line, c.look_at_ranges.ensures) (λ s. refl) refl k.rules.all_links
          (trains_still k.line k.number k.clock (k.clock + 1) k.sessions k.trains.items (omega arith)
          k.rules.all_trains);
    }

pub returns-in_default-clause-exact : goal.returns-in_default-clause-exact
returns-in_default-clause-exact c =
    let k = c.args.self.now in
    let left = stands_for k.line k.number (k.clock + 1) k.book k.desk k.links k.trains.items in
    ap (λ (o : Outcome). (o, left)) c.write_nothing.ensures
    ∙ foreign (goal.at.returns-in_default-clause-exact c).In_default
