use Rattle.std.proofs.Common.{[], ◌++◌, ◌<◌, ◌∙◌, ◌∷◌, ◌≡◌, ap, length, refl, rules, set, slice_get, Some, subst, sym}
use Rattle.std.proofs.lemmas.Option.{slice_get_read}
use Rattle.std.proofs.lemmas.Result.{err_from_is_err_and}
use Rattle.rbc_railway.proofs.Verdicts.{by_unit}
use Rattle.law_trains.specs.Trains.{Says}
use Rattle.rbc_msgs.specs.StepMessage.{step_message}
use Rattle.rbc_railway.proofs.Moves.{led_said, led_sent, one_some, says_on}
use Rattle.rbc_railway.proofs.railway.Railway.send.Goals as goal
use Rattle.rbc_railway.proofs.Safe.{is_safe}
use Rattle.rbc_railway.proofs.Trains.{own_names_set}
use Rattle.rbc_railway.specs.History.{Leads, MaySend, name_of, train_at, WasLed}
use Rattle.rbc_railway.specs.Verdicts.{IsWhyNotSent}
use Rattle.train_unit.specs.Units.{verdict}
use Rattle.rbc_spec.specs.World.{Bytes}
use Rattle.rbc_world.specs.declared.event.WorldEvent.TheVariants as event
use Rattle.rbc_world.specs.Views.{numbered}
use Rattle.rbc_world.specs.World.{state_of}

pub returns-then-train-len-clause-safe : goal.returns-then-train-len-clause-safe
returns-then-train-len-clause-safe c = is_safe _ c.known.ensures.theorem c.known.ensures.line

pub returns-in_err-bytes-clause-safe : goal.returns-in_err-bytes-clause-safe
returns-in_err-bytes-clause-safe c = is_safe _ c.known.ensures.theorem c.known.ensures.line

pub returns-then-is_err-clause-safe : goal.returns-then-is_err-clause-safe
returns-then-is_err-clause-safe c = is_safe _ c.known.ensures.theorem c.known.ensures.line

pub returns-in_err-say-clause-safe : goal.returns-in_err-say-clause-safe
returns-in_err-say-clause-safe c = is_safe _ c.known.ensures.theorem c.known.ensures.line

pub returns-clause-safe : goal.returns-clause-safe
returns-clause-safe c = is_safe _ c.known.ensures.theorem c.known.ensures.line

pub returns-clause-may : goal.returns-clause-may
returns-clause-may c z found =
    let r = c.args.self.now in
    let within : c.args.train < length r.trains.items = search rules in
    let at : slice_get r.trains.items c.args.train ≡ Some c.index_mut.result.now =
    slice_get_read _ _ _ _ refl within c.index_mut.ensures.value in
    subst (MaySend r.line c.args.centre (step_message c.args.message.now)) (one_some (sym at ∙ found))
    c.in_ok-say.ensures.may

pub returns-clause-moment : goal.returns-clause-moment
returns-clause-moment c first moments h =
    let r = c.args.self.now in
    let within : c.args.train < length r.trains.items = search rules in
    let x = c.index_mut.result.now in
    let at : slice_get r.trains.items c.args.train ≡ Some x =
    slice_get_read _ _ _ _ refl within c.index_mut.ensures.value in
    let e = event.Train c.args.centre c.in_ok-bytes.bytes in
    subst (λ sent. Leads r.line (state_of r.world) (set r.trains.items c.args.train c.say.new.self) sent
    r.told.items first
    (moments ++ Says c.args.centre (step_message c.args.message.now) ∷ []))
    (sym (c.push_reserved.ensures.items ∙ ap (λ sent. sent ++ e ∷ []) c.reserve.ensures.items))
    (says_on r.line (state_of r.world) r.trains.items r.sent.items r.told.items r.own_names c.args.train x
    c.say.new.self at within c.say.ensures.name c.args.centre (step_message c.args.message.now) e
    (ap (λ read. Bytes c.args.centre (numbered read)) c.in_ok-bytes.ensures.read) c.in_ok-say.ensures.may
    c.in_ok-say.ensures.ok first moments h)

pub invariant_of-self-2 : goal.invariant_of-self-2
invariant_of-self-2 c =
    let r = c.args.self.now in
    let within : c.args.train < length r.trains.items = search rules in
    let x = c.index_mut.result.now in
    let at : slice_get r.trains.items c.args.train ≡ Some x =
    slice_get_read _ _ _ _ refl within c.index_mut.ensures.value in
    let e = event.Train c.args.centre c.in_ok-bytes.bytes in
    record {
      one_line = r.one_line;
      own_names = own_names_set r.trains.items c.args.train x c.say.new.self at c.say.ensures.name r.own_names within;
      of_centres = r.of_centres;
      led =
          subst (λ sent. ∥ WasLed r.line (state_of r.world) (set r.trains.items c.args.train c.say.new.self) sent
          r.told.items ∥₁)
          (sym (c.push_reserved.ensures.items ∙ ap (λ sent. sent ++ e ∷ []) c.reserve.ensures.items))
          (led_sent r.line (state_of r.world) r.trains.items r.sent.items r.told.items r.own_names c.args.train x
          c.say.new.self at within c.say.ensures.name c.args.centre (step_message c.args.message.now) e
          (ap (λ read. Bytes c.args.centre (numbered read)) c.in_ok-bytes.ensures.read) c.in_ok-say.ensures.may
          c.in_ok-say.ensures.ok r.led);
    }

pub invariant_of-self-in-Break-branch-2 : goal.invariant_of-self-in-Break-branch-2
invariant_of-self-in-Break-branch-2 c =
    let r = c.args.self.now in
    let within : c.args.train < length r.trains.items = search rules in
    let x = c.index_mut.result.now in
    let at : slice_get r.trains.items c.args.train ≡ Some x =
    slice_get_read _ _ _ _ refl within c.index_mut.ensures.value in
    let e = event.Train c.args.centre c.in_ok-bytes.bytes in
    record {
      one_line = r.one_line;
      own_names = own_names_set r.trains.items c.args.train x c.say.new.self at c.say.ensures.name r.own_names within;
      of_centres = r.of_centres;
      led =
          subst (λ sent. ∥ WasLed r.line (state_of r.world) (set r.trains.items c.args.train c.say.new.self) sent
          r.told.items ∥₁) (sym c.reserve.ensures.items)
          (led_said r.line (state_of r.world) r.trains.items r.sent.items r.told.items r.own_names c.args.train x
          c.say.new.self at within c.say.ensures.name c.args.centre (step_message c.args.message.now) e
          (ap (λ read. Bytes c.args.centre (numbered read)) c.in_ok-bytes.ensures.read) c.say.result c.say.ensures.may
          c.say.ensures.ok c.say.ensures.err r.led);
    }

pub returns-in_err-say-clause-no_train : goal.returns-in_err-say-clause-no_train
returns-in_err-say-clause-no_train c none =
    let r = c.args.self.now in
    let within : c.args.train < length r.trains.items = search rules in
    let at : slice_get r.trains.items c.args.train ≡ Some c.index_mut.result.now =
    slice_get_read _ _ _ _ refl within c.index_mut.ensures.value in
    absurd (let no : ⊥ = cc in no)

pub returns-clause-no_train : goal.returns-clause-no_train
returns-clause-no_train c none =
    let r = c.args.self.now in
    let within : c.args.train < length r.trains.items = search rules in
    let at : slice_get r.trains.items c.args.train ≡ Some c.index_mut.result.now =
    slice_get_read _ _ _ _ refl within c.index_mut.ensures.value in
    absurd (let no : ⊥ = cc in no)

pub returns-in_err-say-clause-why : goal.returns-in_err-say-clause-why
returns-in_err-say-clause-why c =
    let r = c.args.self.now in
    let within : c.args.train < length r.trains.items = search rules in
    let at : slice_get r.trains.items c.args.train ≡ Some c.index_mut.result.now =
    slice_get_read _ _ _ _ refl within c.index_mut.ensures.value in
    let p = err_from_is_err_and c.from_residual-in_err-say.result c.from_residual-in_err-say.ensures.1 in
    rw (p.1, p.2)
    (λ y found. subst (λ z. IsWhyNotSent (verdict r.line (name_of z) c.args.centre (step_message c.args.message.now)
    (train_at z)) c.in_err-say.field-0.0) (one_some (sym at ∙ found))
    (by_unit (verdict r.line (name_of c.index_mut.result.now) c.args.centre (step_message c.args.message.now)
    (train_at c.index_mut.result.now)) c.in_err-say.field-0.0 c.in_err-say.ensures.exact))
