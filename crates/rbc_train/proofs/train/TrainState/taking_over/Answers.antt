use Rattle.std.proofs.Common.{[], if◌then◌else◌, ◌∙◌, ◌≡◌, ap, arith, length, None, refl, Some, subst, sym, ℕ}
use Rattle.std.specs.Option.{option_map_or}
use Rattle.rbc_allocation.specs.Sections.{IsHeldBy}
use Rattle.rbc_book.specs.Book.{is_own}
use Rattle.rbc_border.specs.Lending.{with_book}
use Rattle.rbc_hand.specs.Hands.{Holding}
use Rattle.rbc_line.specs.SectionRuns.{run_of}
use Rattle.rbc_mission.specs.Handovers.{sends_off}
use Rattle.rbc_mission.specs.Supervisions.{SupervisionState, with_supervision}
use Rattle.rbc_place.specs.Places.{place_of}
use Rattle.rbc_session.specs.SessionStates.{session_phase}
use Rattle.rbc_spec.specs.Acts.{end_order, rest}
use Rattle.rbc_spec.specs.Centre.{Centre}
use Rattle.rbc_spec.specs.Frame.{Yield, yielded_place}
use Rattle.rbc_spec.specs.Line.{is_home}
use Rattle.rbc_train.proofs.Desk.{has_supervision}
use Rattle.rbc_train.proofs.Kept.{held_again, held_as, keeps_by, keeps_state, still_held}
use Rattle.rbc_train.proofs.RouteFrames.{has_pages}
use Rattle.rbc_train.proofs.train.TrainState.taking_over.Goals as goal
use Rattle.rbc_train.proofs.train.TrainState.taking_over.Goals.{After-order_if_gone-order}
use Rattle.rbc_train.proofs.Yields.{goes, stays}
use Rattle.rbc_train.specs.declared.heard.Heard.{Heard}
use Rattle.rbc_train.specs.declared.mail.Mail.{Mail}
use Rattle.rbc_train.specs.declared.mail.Notice.TheVariants as notice
use Rattle.rbc_train.specs.declared.train.TrainState.{TrainState}
use Rattle.rbc_train.specs.Desk.{counted_to, replied, reply_left, with_parts}
use Rattle.rbc_train.specs.Letters.{mail_home}
use Rattle.rbc_train.specs.Sayings.{sayings_of}

pub yield_to-requires : goal.yield_to-requires
yield_to-requires c =
    let old = c.args.self.now in
    record {
      held = held_as old.supervision.engine old.supervision.engine (is_home c.args.line.now c.args.centre)
          (is_own c.args.book.now) old.supervision.hand refl c.requires.at.book c.requires.at.held;
    }

-- no such handover is pending
pub returns-in_default-clause-exact : goal.returns-in_default-clause-exact
returns-in_default-clause-exact c = λ rights k has.
    let line = c.args.line.now in
    let n = c.args.centre in
    let old = c.args.self.now in
    let t = old.supervision.engine in
    let left = c.yield_to.new.self in
    let book' = c.yield_to.new.book in
    let same = c.yield_to.ensures.none c.in_default.is in
    stays line n c.args.from c.args.number k old c.args.book.now rights has left book' same.0 same.1
    (c.yield_to.ensures.exact k (has_supervision line n k old c.args.book.now rights has)
    (has_pages line n k old c.args.book.now rights has)
    ∙ ap (λ o. option_map_or (sends_off line n t) o rest (with_supervision left (with_book book' k))) c.in_default.is)
    ∙ ap (reply_left line n t (with_parts (record old { supervision = left }) book' rights k))
    (sym c.requires.ready.out)

pub returns-in_default-clause-keeps : goal.returns-in_default-clause-keeps
returns-in_default-clause-keeps c =
    let old = c.args.self.now in
    let left = c.yield_to.new.self in
    let same = c.yield_to.ensures.none c.in_default.is in
    let engine = ap (λ (x : SupervisionState). x.engine) same.0 in
    keeps_state c.args.line.now c.args.centre old old.heard left (ap (λ (x : SupervisionState). x.number) same.0) engine
    (still_held c.args.line.now c.args.centre old (record old { supervision = left }) engine
    (ap (λ (x : SupervisionState). x.hand) same.0) c.requires.at.held)

-- the mission is handed over, and the train may have got an order
turned : (c : After-order_if_gone-order) → c.order_if_gone-order.new.self
    ≡ record c.args.self.now {
      said = c.order_if_gone-order.new.self.said;
      supervision = record c.args.self.now.supervision { mission = None; hand = c.yield_to.new.self.hand };
    }
turned c =
    c.order_if_gone-order.ensures.says.left
    ∙ (λ i. record c.args.self.now {
      said = c.order_if_gone-order.new.self.said;
      supervision = c.in-Some.ensures.gone i;
    })

pub returns-clause-exact : goal.returns-clause-exact
returns-clause-exact c = λ rights k has.
    let line = c.args.line.now in
    let n = c.args.centre in
    let old = c.args.self.now in
    let t = old.supervision.engine in
    let left = c.yield_to.new.self in
    let book' = c.yield_to.new.book in
    let y = c.in-Some.yielded in
    let gone = c.in-Some.ensures.gone in
    let new = c.order_if_gone-order.new.self in
    let order = c.order_if_gone-order.result in
    let at = with_supervision (record old.supervision { mission = None; hand = left.hand }) (with_book book' k) in
    goes line n c.args.from c.args.number k old c.args.book.now rights has y c.yield_letter-letter.result order new
    left.hand book'
    c.yield_letter-letter.ensures.to
    (c.yield_letter-letter.ensures.body
    ∙ ap (λ (u : ℕ). Yield y.handover.number u (option_map_or (λ n. n) old.heard 0) y.mission.has_data
    y.mission.is_ended (yielded_place (place_of y.mission.place)) (run_of y.hand)) c.nid_engine-nid_engine.ensures)
    (turned (goal.at.returns-clause-exact c).After-order_if_gone-order)
    (c.yield_to.ensures.exact k (has_supervision line n k old c.args.book.now rights has)
    (has_pages line n k old c.args.book.now rights has)
    ∙ ap (λ o. option_map_or (sends_off line n t) o rest (with_supervision left (with_book book' k))) c.in-Some.is
    ∙ (λ i. sends_off line n t y (with_supervision (gone i) (with_book book' k))))
    (subst (λ (u : ℕ). (j : Centre) → j.phase u ≡ session_phase old.session_state → j.said u ≡ old.said
    → (if y.is_gone then end_order line n u else rest) j ≡ replied (counted_to u new.said j) (sayings_of order) [])
    (ap (λ (x : SupervisionState). x.engine) gone) c.order_if_gone-order.ensures.exact at has.has_phase has.has_said)
    ∙ ap (λ (x : Heard). reply_left line n t (with_parts new book' rights k)
    (record x {
      order = order;
      mail = mail_home y.mission.place.track y.pool notice.Nothing (Some c.yield_letter-letter.result);
    })) (sym c.requires.ready.out)
    ∙ ap (λ (m : Mail). reply_left line n t (with_parts new book' rights k)
    (record c.args.out.now { order = order; mail = m })) (sym c.home-out.ensures)

pub returns-clause-keeps : goal.returns-clause-keeps
returns-clause-keeps c =
    let line = c.args.line.now in
    let old = c.args.self.now in
    let new = c.order_if_gone-order.new.self in
    let is = turned (goal.at.returns-clause-keeps c).After-order_if_gone-order in
    let engine = ap (λ (p : TrainState). p.supervision.engine) is in
    let once = c.order_if_gone-order.ensures.says.counted.1 in
    keeps_by line c.args.centre old new (ap (λ (p : TrainState). p.supervision.number) is) engine
    (ap (λ (p : TrainState). p.waiting) is) (omega (arith, once))
    (ap (λ (p : TrainState). length p.expectations) is)
    (held_again line c.args.centre old.supervision.engine new c.yield_to.new.book (sym engine)
    (λ s. c.yield_to.ensures.homes s ∙ c.requires.at.book s)
    (subst (λ (hand : Holding). IsHeldBy old.supervision.engine hand c.yield_to.new.book)
    (sym (ap (λ (p : TrainState). p.supervision.hand) is)) c.yield_to.ensures.held))
