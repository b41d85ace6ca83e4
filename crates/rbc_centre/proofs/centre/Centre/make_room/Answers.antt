use Rattle.std.proofs.Common.{◌∙◌, ◌≡◌, ap, arith, false, refl, slice_get, Some, sym, true, ℕ}
use Rattle.std.proofs.lemmas.Bool.{both_ways}
use Rattle.std.proofs.lemmas.Option.{slice_get_read}
use Rattle.rbc_centre.proofs.centre.Centre.make_room.Goals as goal
use Rattle.rbc_centre.proofs.Kept.{with_room}
use Rattle.rbc_centre.proofs.States.{number_within}
use Rattle.rbc_centre.proofs.Trains.{heard_of}
use Rattle.rbc_link.specs.Links.{KeepsLinks}
use Rattle.rbc_msgs.specs.StepMessage.{step_body, step_message}
use Rattle.rbc_spec.specs.Message.{is_stale}
use Rattle.rbc_train.specs.Letters.{tells_others}

pub invariant_of-self : goal.invariant_of-self
invariant_of-self c =
    let k = c.args.self.now in
    let still : KeepsLinks k.links k.links =
    record { count = refl; linked = λ d. refl; taken = λ d. refl; sent = λ d. refl; room = λ d. omega arith } in
    record {
      rules = with_room k c.reserve.new.self k.links still (λ t i p is. record {
        number = is.number;
        engine = is.engine;
        waiting = is.waiting;
        covers = is.covers;
        held = is.held;
        expected = is.expected;
        session = (c.reserve.ensures.phases t ∙ is.session.0, λ key e. c.reserve.ensures.keys key ∙ is.session.1 key e);
      });
    }

-- a message that opens a session sends no frame to another centre
pub returns-then-tells_others-clause-session : goal.returns-then-tells_others-clause-session
returns-then-tells_others-clause-session c = λ opens timely.
    let m = c.args.message.now in
    let none : tells_others (step_body m.body) ≡ false = ap (λ b. tells_others (step_body b)) opens in
    let tells : tells_others (step_body m.body) ≡ true =
    sym (c.tells_others.ensures m (sym c.body.ensures.value)) ∙ c.if-tells_others.true in
    absurd (both_ways (tells_others (step_body m.body)) none tells)

-- a message that is late or again opens no session
pub returns-then-is_stale-clause-session : goal.returns-then-is_stale-clause-session
returns-then-is_stale-clause-session c = λ opens timely.
    let k = c.args.self.now in
    let states = k.trains.items in
    let m = step_message c.args.message.now in
    let train = c.index.result.now in
    let at : slice_get states c.args.i ≡ Some train = slice_get_read _ _ _ _ refl
    (number_within k.line states m.nid_engine c.args.i c.requires.number k.rules.all_trains.count) c.index.ensures in
    let stale : is_stale m.t_train train.heard ≡ true = ap (λ (t : ℕ). is_stale t train.heard)
    (sym c.t_train.ensures.value) ∙ sym c.is_stale.ensures ∙ c.if-is_stale.true in
    absurd (both_ways (is_stale m.t_train train.heard)
    (sym
    (ap (is_stale m.t_train) (heard_of k.line k.number k.clock m.nid_engine c.args.i k.book k.desk k.links states train
    c.requires.number at)) ∙ timely) stale)
