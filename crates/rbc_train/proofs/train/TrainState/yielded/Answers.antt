use Rattle.std.proofs.Common.{◌∙◌, ap, arith, length, option_map, sym}
use Rattle.std.specs.Option.{option_map_or}
use Rattle.rbc_place.specs.Places.{place_of}
use Rattle.rbc_spec.specs.Acts.{rest}
use Rattle.rbc_train.proofs.Arrivals.{asked_so, unwished, wished_first}
use Rattle.rbc_train.proofs.Desk.{same_parts}
use Rattle.rbc_train.proofs.Kept.{held_again, keeps_by, still_held}
use Rattle.rbc_train.proofs.train.TrainState.yielded.Goals as goal
use Rattle.rbc_train.specs.Arriving.{taken_up, yielded_at}
use Rattle.rbc_train.specs.declared.heard.Heard.{Heard}
use Rattle.rbc_train.specs.declared.train.TrainState.{TrainState}
use Rattle.rbc_train.specs.Desk.{reply_left, with_parts}
use Rattle.rbc_train.specs.Sayings.{sayings_of}

pub returns-in_default-clause-exact : goal.returns-in_default-clause-exact
returns-in_default-clause-exact c = λ k has.
    let line = c.args.line.now in
    let n = c.args.centre in
    let p = c.args.self.now in
    ap (λ o. option_map_or (yielded_at line n p.supervision.engine c.args.arriving) o rest k)
    (sym c.arriving_place.ensures ∙ ap (option_map place_of) c.in_default.is)
    ∙ same_parts line n k p c.args.book.now c.args.registrar.now has
    ∙ ap (reply_left line n p.supervision.engine (with_parts p c.args.book.now c.args.registrar.now k))
    (sym c.requires.ready.out)

pub returns-then-not-may_take-clause-exact : goal.returns-then-not-may_take-clause-exact
returns-then-not-may_take-clause-exact c = λ k has.
    let line = c.args.line.now in
    let n = c.args.centre in
    let p = c.args.self.now in
    ap (λ o. option_map_or (yielded_at line n p.supervision.engine c.args.arriving) o rest k)
    (sym c.arriving_place.ensures ∙ ap (option_map place_of) c.in-Some.is)
    ∙ rw (sym (c.may_take.ensures.exact k has) ∙ c.if-not-may_take.true)
    (same_parts line n k p c.args.book.now c.args.registrar.now has)
    ∙ ap (reply_left line n p.supervision.engine (with_parts p c.args.book.now c.args.registrar.now k))
    (sym c.requires.ready.out)

pub may_take-requires-clause-some : goal.may_take-requires-clause-some
may_take-requires-clause-some c = c.requires.hand.count.0

pub take_mission-requires-clause-may : goal.take_mission-requires-clause-may
take_mission-requires-clause-may c = c.may_take.ensures.may c.if-not-may_take.false

pub first_wished-requires : goal.first_wished-requires
first_wished-requires c = let last = c.requires.hand.last in omega (arith, last)

pub returns-in-Some-first_wished-clause-exact : goal.returns-in-Some-first_wished-clause-exact
returns-in-Some-first_wished-clause-exact c = λ k has.
    let line = c.args.line.now in
    let n = c.args.centre in
    let p = c.args.self.now in
    let t = p.supervision.engine in
    let y = c.args.arriving.yielding in
    let place = place_of c.in-Some.place in
    let taken = c.take_mission.ensures in
    let x = c.take_mission.new.self in
    let asked = c.ask_back-out.ensures in
    ap (λ o. option_map_or (yielded_at line n t c.args.arriving) o rest k)
    (sym c.arriving_place.ensures ∙ ap (option_map place_of) c.in-Some.is)
    ∙ rw (sym (c.may_take.ensures.exact k has) ∙ c.if-not-may_take.false)
    (wished_first line n k p c.args.book.now c.args.registrar.now has c.args.arriving.from y place x.supervision.hand
    x.expectations c.take_mission.new.book taken.book taken.expected c.requires.hand taken.count
    c.in-Some-first_wished.s c.ask_back-out.new.self (sayings_of c.ask_back-out.result)
    (sym c.first_wished.ensures ∙ c.in-Some-first_wished.is)
    (asked_so line c.in-Some-first_wished.s x (taken_up y place x.supervision.hand x.expectations p)
    c.ask_back-out.new.self (sayings_of c.ask_back-out.result) taken.left asked.exact)
    (asked.engine ∙ ap (λ (q : TrainState). q.supervision.engine) taken.left)
    (asked.number ∙ ap (λ (q : TrainState). q.supervision.number) taken.left)
    (asked.question ∙ ap (λ (q : TrainState). q.supervision.asked) taken.left)
    (asked.session_state ∙ ap (λ (q : TrainState). q.session_state) taken.left)
    (asked.heard ∙ ap (λ (q : TrainState). q.heard) taken.left)
    (asked.waiting ∙ ap (λ (q : TrainState). q.waiting) taken.left) asked.expectations)
    ∙ ap (λ (x : Heard). reply_left line n t
    (with_parts c.ask_back-out.new.self c.take_mission.new.book c.args.registrar.now k)
    (record x { saying = c.ask_back-out.result })) (sym c.requires.ready.out)

pub returns-in-None-clause-exact : goal.returns-in-None-clause-exact
returns-in-None-clause-exact c = λ k has.
    let line = c.args.line.now in
    let n = c.args.centre in
    let p = c.args.self.now in
    let t = p.supervision.engine in
    let y = c.args.arriving.yielding in
    let place = place_of c.in-Some.place in
    let taken = c.take_mission.ensures in
    let x = c.take_mission.new.self in
    let book' = c.take_mission.new.book in
    ap (λ o. option_map_or (yielded_at line n t c.args.arriving) o rest k)
    (sym c.arriving_place.ensures ∙ ap (option_map place_of) c.in-Some.is)
    ∙ rw (sym (c.may_take.ensures.exact k has) ∙ c.if-not-may_take.false)
    (unwished line n k p c.args.book.now c.args.registrar.now has c.args.arriving.from y place x.supervision.hand
    x.expectations book' taken.book taken.expected c.requires.hand taken.count
    (sym c.first_wished.ensures ∙ c.in-None.is))
    ∙ (λ i. reply_left line n t (with_parts (sym taken.left i) book' c.args.registrar.now k)
    (sym c.requires.ready.out i))

pub returns-in-Some-first_wished-clause-keeps : goal.returns-in-Some-first_wished-clause-keeps
returns-in-Some-first_wished-clause-keeps c =
    let line = c.args.line.now in
    let p = c.args.self.now in
    let taken = c.take_mission.ensures in
    let x = c.take_mission.new.self in
    let q = c.ask_back-out.new.self in
    let asked = c.ask_back-out.ensures in
    let engine = ap (λ (y : TrainState). y.supervision.engine) taken.left in
    let before = ap (λ (y : TrainState). y.said) taken.left in
    let once = asked.said in
    keeps_by line c.args.centre p q (asked.number ∙ ap (λ (y : TrainState). y.supervision.number) taken.left)
    (asked.engine ∙ engine)
    (asked.waiting ∙ ap (λ (y : TrainState). y.waiting) taken.left) (omega (arith, before, once))
    (ap length asked.expectations ∙ taken.count)
    (still_held line c.args.centre x q asked.engine asked.hand
    (held_again line c.args.centre p.supervision.engine x c.take_mission.new.book (sym engine)
    (λ s. taken.book.homes s ∙ c.requires.at.book s) taken.held))

pub returns-in-None-clause-keeps : goal.returns-in-None-clause-keeps
returns-in-None-clause-keeps c =
    let line = c.args.line.now in
    let p = c.args.self.now in
    let taken = c.take_mission.ensures in
    let x = c.take_mission.new.self in
    let engine = ap (λ (y : TrainState). y.supervision.engine) taken.left in
    let before = ap (λ (y : TrainState). y.said) taken.left in
    keeps_by line c.args.centre p x (ap (λ (y : TrainState). y.supervision.number) taken.left) engine
    (ap (λ (y : TrainState). y.waiting) taken.left) (omega (arith, before)) taken.count
    (held_again line c.args.centre p.supervision.engine x c.take_mission.new.book (sym engine)
    (λ s. taken.book.homes s ∙ c.requires.at.book s) taken.held)
