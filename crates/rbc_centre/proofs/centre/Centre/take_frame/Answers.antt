use Rattle.std.proofs.Common.{◌+◌, ◌∙◌, ◌≡◌, ap, arith, false, inr, is_some, map, max, None, refl, rules, set}
use Rattle.std.proofs.Common.{slice_get, Some, subst, sym, ℕ}
use Rattle.std.proofs.lemmas.Option.{slice_get_read}
use Rattle.std.proofs.Math.Nat.{le-max_left}
use Rattle.rbc_centre.proofs.centre.Centre.take_frame.Goals as goal
use Rattle.rbc_centre.proofs.centre.Centre.take_frame.Goals.{After-index_mut-train, After-offer-answer}
use Rattle.rbc_centre.proofs.centre.Centre.take_frame.Goals.{In_default-train_number}
use Rattle.rbc_centre.proofs.Deliveries.{deliver_stamp, ignored, IsOffered, next_from, next_number, not_next}
use Rattle.rbc_centre.proofs.Deliveries.{offered_as, received_may, silent, stays_silent, train_takes, untaken}
use Rattle.rbc_centre.proofs.Kept.{links_still, trains_set}
use Rattle.rbc_centre.proofs.Rows.{later_of}
use Rattle.rbc_centre.proofs.States.{number_within}
use Rattle.rbc_centre.proofs.Turns.{has_count, has_number, in_time, of_train, sent_by, stays, turns}
use Rattle.rbc_centre.specs.Answer.{TakesMemory}
use Rattle.rbc_centre.specs.declared.desk.Desk.{Desk}
use Rattle.rbc_centre.specs.Posts.{MayPost}
use Rattle.rbc_centre.specs.Sent.{frames_to}
use Rattle.rbc_centre.specs.State.{IsOfTrain, stands_for}
use Rattle.rbc_centre.specs.States.{state_of}
use Rattle.rbc_handover.specs.Expectations.{expected_from}
use Rattle.rbc_link.specs.Inbox.{answer_of}
use Rattle.rbc_linkmsg.specs.Bodies.{engine_in}
use Rattle.rbc_session.specs.declared.session.SessionState.{SessionState}
use Rattle.rbc_spec.specs.Frame.{Body, HasBodyRange}
use Rattle.rbc_spec.specs.Line.{train_number}
use Rattle.rbc_spec.specs.Links.{received}
use Rattle.rbc_spec.specs.Outcome.{Outcome, Told}
use Rattle.rbc_spec.specs.Step.{Deliver, stamp_of}
use Rattle.rbc_train.specs.Letters.{mail_to}
use Rattle.rbc_train.specs.Sayings.{told_train}
use Rattle.rbc_train.specs.SessionStates.{Stands}

-- the stamp of the step
stamped : (c : After-offer-answer)
    → stamp_of (state_of c.args.self.now) (Deliver c.args.from c.args.frame.now) ≡ c.max.result + 1
stamped c =
    let k = c.args.self.now in
    deliver_stamp k c.args.from c.args.frame.now ∙ ap (λ n. max k.clock n + 1) (sym c.stamp.ensures.value)
    ∙ ap (λ n. n + 1) (sym (later_of k.clock c.stamp.result) ∙ sym c.max.ensures)

pub overflow_add-self : goal.overflow_add-self
overflow_add-self c =
    let k = c.args.self.now in
    let f = c.args.frame.now in
    let stamp : c.max.result ≡ max k.clock f.stamp =
    c.max.ensures ∙ later_of k.clock c.stamp.result ∙ ap (max k.clock) c.stamp.ensures.value in
    let early =
    in_time k (Deliver c.args.from f) (max k.clock f.stamp) (deliver_stamp k c.args.from f) c.requires.allowed in
    search (rules, stamp, early)

range : (c : After-offer-answer) → HasBodyRange c.args.frame.now.body
range c = subst HasBodyRange c.body-body.ensures.value c.body-body.ensures.range

-- the answer of the link to the frame
is_offered : (c : After-offer-answer)
    → IsOffered c.args.self.now c.args.from c.args.frame.now c.offer-answer.new.self (answer_of c.offer-answer.result)
is_offered c =
    let is = c.offer-answer.ensures in
    offered_as c.args.self.now c.args.from c.args.frame.now c.offer-answer.new.self c.offer-answer.result
    c.number.result c.number.ensures.value
    is.answer is.count is.linked is.taken is.sent is.room

pub invariant_of-self : goal.invariant_of-self
invariant_of-self c =
    let k = c.args.self.now in
    let d = c.args.from in
    let f = c.args.frame.now in
    let clock = c.max.result + 1 in
    let mid = c.offer-answer.new.self in
    let o = (goal.at.invariant_of-self c).After-offer-answer in
    record {
      rules = stays_silent k clock d f mid (answer_of c.offer-answer.result) (is_offered o) (stamped o) (range o)
          (untaken k clock d f mid (answer_of c.offer-answer.result) (is_offered o)
          (not_next c.offer-answer.result c.in_default.not-Next)) c.requires.allowed;
    }

pub returns-in_default-clause-exact : goal.returns-in_default-clause-exact
returns-in_default-clause-exact c =
    let k = c.args.self.now in
    let d = c.args.from in
    let f = c.args.frame.now in
    let clock = c.max.result + 1 in
    let mid = c.offer-answer.new.self in
    let o = (goal.at.returns-in_default-clause-exact c).After-offer-answer in
    let left = stands_for k.line k.number clock k.book k.desk mid k.trains.items in
    ap (λ (o : Outcome). (o, left)) c.write_nothing.ensures
    ∙ silent k clock d f mid (answer_of c.offer-answer.result) (is_offered o) (stamped o) (range o)
    (untaken k clock d f mid (answer_of c.offer-answer.result) (is_offered o)
    (not_next c.offer-answer.result c.in_default.not-Next))

-- ## The next frame, of no train of the line

foreign : (c : In_default-train_number)
    → is_some (train_number c.args.self.now.line (engine_in c.args.frame.now.body)) ≡ false
foreign c =
    let line = c.args.self.now.line in
    ap (λ (b : Body). is_some (train_number line (engine_in b))) (sym c.body-body.ensures.value)
    ∙ ap (λ n. is_some (train_number line n)) (sym c.engine.ensures)
    ∙ ap is_some (sym c.train_number.ensures.value ∙ c.in_default-train_number.is)

pub invariant_of-self-in_default-train_number : goal.invariant_of-self-in_default-train_number
invariant_of-self-in_default-train_number c =
    let k = c.args.self.now in
    let d = c.args.from in
    let f = c.args.frame.now in
    let clock = c.max.result + 1 in
    let mid = c.offer-answer.new.self in
    let at = goal.at.invariant_of-self-in_default-train_number c in
    let o = at.After-offer-answer in
    record {
      rules = stays_silent k clock d f mid (answer_of c.offer-answer.result) (is_offered o) (stamped o) (range o)
          (ignored k clock d f mid (answer_of c.offer-answer.result) (is_offered o) (ap answer_of c.in-Next.is)
          (foreign at.In_default-train_number)) c.requires.allowed;
    }

pub returns-in_default-train_number-clause-exact : goal.returns-in_default-train_number-clause-exact
returns-in_default-train_number-clause-exact c =
    let k = c.args.self.now in
    let d = c.args.from in
    let f = c.args.frame.now in
    let clock = c.max.result + 1 in
    let mid = c.offer-answer.new.self in
    let at = goal.at.returns-in_default-train_number-clause-exact c in
    let o = at.After-offer-answer in
    let left = stands_for k.line k.number clock k.book k.desk mid k.trains.items in
    ap (λ (o : Outcome). (o, left)) c.write_nothing-in_default-train_number.ensures
    ∙ silent k clock d f mid (answer_of c.offer-answer.result) (is_offered o) (stamped o) (range o)
    (ignored k clock d f mid (answer_of c.offer-answer.result) (is_offered o) (ap answer_of c.in-Next.is)
    (foreign at.In_default-train_number))

-- ## Its train

number : (c : After-index_mut-train) → train_number c.args.self.now.line c.engine.result ≡ Some c.in-Some.i
number c = sym c.train_number.ensures.value ∙ c.in-Some.is

place : (c : After-index_mut-train)
    → slice_get c.args.self.now.trains.items c.in-Some.i ≡ Some c.index_mut-train.result.now
place c =
    let k = c.args.self.now in
    slice_get_read _ _ _ _ refl
    (number_within k.line k.trains.items c.engine.result c.in-Some.i (number c) k.rules.all_trains.count)
    c.index_mut-train.ensures.value

train : (c : After-index_mut-train)
    → IsOfTrain c.args.self.now.line c.args.self.now.number c.args.self.now.sessions c.engine.result c.in-Some.i
    c.index_mut-train.result.now
train c = of_train c.args.self.now c.engine.result c.in-Some.i c.index_mut-train.result.now (number c) (place c)

pub receive-requires-clause-engine : goal.receive-requires-clause-engine
receive-requires-clause-engine c =
    sym c.engine.ensures ∙ sym (train (goal.at.receive-requires-clause-engine c).After-index_mut-train).engine

pub receive-requires-clause-train : goal.receive-requires-clause-train
receive-requires-clause-train c = let is = train (goal.at.receive-requires-clause-train c).After-index_mut-train in
    is.waiting ∙ sym is.engine

pub receive-requires-clause-book : goal.receive-requires-clause-book
receive-requires-clause-book c = c.args.self.now.rules.own_sections

pub receive-requires-clause-held : goal.receive-requires-clause-held
receive-requires-clause-held c = (train (goal.at.receive-requires-clause-held c).After-index_mut-train).held

pub receive-requires-clause-expected : goal.receive-requires-clause-expected
receive-requires-clause-expected c = (train (goal.at.receive-requires-clause-expected c).After-index_mut-train).expected

pub receive-requires-clause-from : goal.receive-requires-clause-from
receive-requires-clause-from c =
    next_from c.args.self.now c.args.from c.args.frame.now c.offer-answer.new.self (answer_of c.offer-answer.result)
    (is_offered (goal.at.receive-requires-clause-from c).After-offer-answer) (ap answer_of c.in-Next.is)

pub receive-requires-clause-number : goal.receive-requires-clause-number
receive-requires-clause-number c =
    let at = (goal.at.receive-requires-clause-number c).After-index_mut-train in
    has_number c.args.self.now c.engine.result c.in-Some.i c.index_mut-train.result.now (number at) (place at)

pub receive-requires-clause-range : goal.receive-requires-clause-range
receive-requires-clause-range c = c.body-body.ensures.range

pub receive-requires-clause-count : goal.receive-requires-clause-count
receive-requires-clause-count c =
    let at = (goal.at.receive-requires-clause-count c).After-index_mut-train in
    let low = le-max_left c.args.self.now.clock c.args.frame.now.stamp in
    let early = in_time c.args.self.now (Deliver c.args.from c.args.frame.now)
    (max c.args.self.now.clock c.args.frame.now.stamp) (deliver_stamp c.args.self.now c.args.from c.args.frame.now)
    c.requires.allowed in
    let few = has_count c.args.self.now c.engine.result c.in-Some.i c.index_mut-train.result.now (number at) (place at)
    (omega (arith, low, early)) in
    omega (arith, few)

-- the frame is the next of its sender
is_next : (c : After-index_mut-train)
    → IsOffered c.args.self.now c.args.from c.args.frame.now c.offer-answer.new.self (answer_of c.offer-answer.result)
    → TakesMemory (state_of c.args.self.now) (Deliver c.args.from c.args.frame.now)
is_next c is =
    next_number c.args.self.now c.args.from c.args.frame.now c.offer-answer.new.self (answer_of c.offer-answer.result)
    is (ap answer_of c.in-Next.is)

pub post-requires : goal.post-requires
post-requires c =
    let at = goal.at.post-requires c in
    let o = at.After-offer-answer in
    let p = at.After-index_mut-train in
    let k = c.args.self.now in
    let d = c.args.from in
    let f = c.args.frame.now in
    let clock = c.max.result + 1 in
    let old = c.index_mut-train.result.now in
    let new = c.receive.new.self in
    let heard = c.receive.new.out in
    let answer = answer_of c.offer-answer.result in
    let effect = train_takes k clock d f c.offer-answer.new.self answer (is_offered o) (ap answer_of c.in-Next.is)
    c.engine.result c.in-Some.i old (number p) (place p) new c.receive.new.book c.receive.new.registrar
    c.receive.ensures.kept c.receive.ensures.desk heard
    (λ x has known. ap (λ (b : Body). received k.line k.number d b x) (sym c.body-body.ensures.value)
    ∙ c.receive.ensures.exact x has known) in
    let early = in_time k (Deliver d f) c.max.result (stamped o) c.requires.allowed in
    let next = is_next p (is_offered o) in
    record {
      timely = (omega arith, omega (arith, early));
      linked = λ e. c.offer-answer.ensures.linked e ∙ k.rules.all_links.linked e;
      may =
          subst (λ (u : ℕ). (e : ℕ)
          → MayPost c.offer-answer.new.self e (mail_to k.line k.number u (expected_from new.expectations) heard.mail e))
          ((train p).engine ∙ c.engine.ensures ∙ sym c.engine-2.ensures)
          (received_may k d f clock c.offer-answer.new.self _ old (expected_from new.expectations) heard answer
          (stamped o) c.offer-answer.ensures.sent effect c.requires.allowed
          (range o) c.offer-answer.ensures.linked c.offer-answer.ensures.room (c.requires.room next).links);
      room = λ e. inr (c.requires.room next).frames;
    }

-- ## The centre that is left, and the answer

pub invariant_of-self-2 : goal.invariant_of-self-2
invariant_of-self-2 c =
    let at = goal.at.invariant_of-self-2 c in
    let o = at.After-offer-answer in
    let p = at.After-index_mut-train in
    let k = c.args.self.now in
    let d = c.args.from in
    let f = c.args.frame.now in
    let clock = c.max.result + 1 in
    let mid = c.offer-answer.new.self in
    let t = c.engine.result in
    let i = c.in-Some.i in
    let old = c.index_mut-train.result.now in
    let new = c.receive.new.self in
    let heard = c.receive.new.out in
    let kept = c.receive.ensures.kept in
    let desk = c.receive.ensures.desk in
    let answer = answer_of c.offer-answer.result in
    let effect = train_takes k clock d f mid answer (is_offered o) (ap answer_of c.in-Next.is) t i old (number p)
    (place p) new c.receive.new.book c.receive.new.registrar kept desk heard
    (λ x has known. ap (λ (b : Body). received k.line k.number d b x) (sym c.body-body.ensures.value)
    ∙ c.receive.ensures.exact x has known) in
    let was = train p in
    let sent = sent_by k.line k.number c.engine-2.result old.supervision.engine clock (expected_from new.expectations)
    heard.mail mid c.post.new.links (frames_to c.post.new.frames)
    (c.engine-2.ensures ∙ sym c.engine.ensures ∙ sym was.engine) c.post.ensures in
    let low = le-max_left k.clock f.stamp in
    let now = deliver_stamp k d f in
    let stamp = stamped o in
    record {
      rules =
          stays k (Deliver d f) clock mid c.post.new.links c.receive.new.book
          (record { registrar = c.receive.new.registrar; handovers = k.desk.handovers }) (set k.trains.items i new)
          (mail_to k.line k.number old.supervision.engine (expected_from new.expectations) heard.mail)
          (told_train heard.saying heard.order) (map (λ s. Told s) heard.told) (Some answer) None
          stamp c.offer-answer.ensures.sent sent.links effect (frames_to c.post.new.frames) sent.each
          k.sessions (omega arith) c.requires.allowed (range o)
          (received_may k d f clock mid _ old (expected_from new.expectations) heard answer stamp
          c.offer-answer.ensures.sent effect c.requires.allowed (range o) c.offer-answer.ensures.linked
          c.offer-answer.ensures.room
          (c.requires.room (is_next p (is_offered o))).links) desk.homes desk.rights.count
          (links_still k.line k.number k.links mid c.offer-answer.ensures.count c.offer-answer.ensures.linked
          c.offer-answer.ensures.sent k.rules.all_links)
          (trains_set k.line k.number k.clock clock k.sessions k.sessions k.trains.items t i old new
          (omega (arith, low, now, stamp)) (number p) (place p) kept.said
          (record {
            number = kept.number ∙ was.number;
            engine = kept.engine ∙ was.engine;
            waiting = kept.waiting ∙ was.waiting;
            covers = c.receive.ensures.covers was.covers;
            held = c.receive.ensures.held;
            expected = c.receive.ensures.expected ∙ was.expected;
            session = subst (λ (x : SessionState). Stands k.sessions x t) (sym c.receive.ensures.session) was.session;
          })
          (λ u j q apart same. same) k.rules.all_trains);
    }

pub returns-clause-exact : goal.returns-clause-exact
returns-clause-exact c =
    let at = goal.at.returns-clause-exact c in
    let o = at.After-offer-answer in
    let p = at.After-index_mut-train in
    let k = c.args.self.now in
    let d = c.args.from in
    let f = c.args.frame.now in
    let clock = c.max.result + 1 in
    let mid = c.offer-answer.new.self in
    let i = c.in-Some.i in
    let old = c.index_mut-train.result.now in
    let new = c.receive.new.self in
    let heard = c.receive.new.out in
    let answer = answer_of c.offer-answer.result in
    let effect = train_takes k clock d f mid answer (is_offered o) (ap answer_of c.in-Next.is) c.engine.result i old
    (number p) (place p) new c.receive.new.book c.receive.new.registrar c.receive.ensures.kept
    c.receive.ensures.desk heard
    (λ x has known. ap (λ (b : Body). received k.line k.number d b x) (sym c.body-body.ensures.value)
    ∙ c.receive.ensures.exact x has known) in
    let desk : Desk = record { registrar = c.receive.new.registrar; handovers = k.desk.handovers } in
    let left = stands_for k.line k.number clock c.receive.new.book desk c.post.new.links (set k.trains.items i new) in
    let sent = sent_by k.line k.number c.engine-2.result old.supervision.engine clock (expected_from new.expectations)
    heard.mail mid c.post.new.links (frames_to c.post.new.frames)
    (c.engine-2.ensures ∙ sym c.engine.ensures ∙ sym (train p).engine) c.post.ensures in
    ap (λ (o : Outcome). (o, left)) c.write_heard.ensures
    ∙ turns k (Deliver d f) clock mid c.post.new.links c.receive.new.book desk (set k.trains.items i new)
    (mail_to k.line k.number old.supervision.engine (expected_from new.expectations) heard.mail)
    (told_train heard.saying heard.order) (map (λ s. Told s) heard.told) (Some answer) None
    (stamped o) c.offer-answer.ensures.sent sent.links effect (frames_to c.post.new.frames) sent.each
