use Rattle.std.proofs.Common.{◌&&◌, ◌*◌, ◌∙◌, nat_le, refl, sym}
use Rattle.rbc_border.specs.Lending.{with_book}
use Rattle.rbc_handover.specs.Expectations.{expected_from, is_taking_under}
use Rattle.rbc_line.specs.SectionRuns.{run_of}
use Rattle.rbc_place.specs.Places.{place_of}
use Rattle.rbc_right.specs.Rights.{is_here}
use Rattle.rbc_spec.specs.Centre.{beginning}
use Rattle.rbc_spec.specs.Line.{section_of_group}
use Rattle.rbc_spec.specs.Links.{may_arrive}
use Rattle.rbc_spec.specs.Maps.{has}
use Rattle.rbc_spec.specs.Place.{group_start}
use Rattle.rbc_spec.specs.SectionRuns.{all_of}
use Rattle.rbc_spec.specs.Sections.{is_on, is_on_track}
use Rattle.rbc_train.proofs.Arrivals.{may_be_taken, no_mission_here, own_out, run_of_line}
use Rattle.rbc_train.proofs.RouteFrames.{has_pages}
use Rattle.rbc_train.proofs.train.TrainState.may_take.Goals as goal

pub returns-then-not-awaits-clause-exact : goal.returns-then-not-awaits-clause-exact
returns-then-not-awaits-clause-exact c = λ k there.
    let line = c.args.line.now in
    let place = place_of c.args.place.now in
    let hand = run_of c.args.arriving.now.yielding.hand in
    (λ i. sym (sym c.awaits.ensures ∙ c.if-not-awaits.true) i
    && (((is_on_track line place.track hand && has (is_on line place.track) (section_of_group line place.group))
    && nat_le (10 * group_start line place) place.front)
    && all_of (may_arrive line c.args.centre k c.args.self.now.supervision.engine place.track) hand))
    ∙ may_be_taken line c.args.centre k c.args.self.now c.args.book.now c.args.registrar.now there
    c.args.arriving.now.from c.args.arriving.now.number place hand

pub returns-then-not-is_placed-clause-exact : goal.returns-then-not-is_placed-clause-exact
returns-then-not-is_placed-clause-exact c = λ k there.
    let line = c.args.line.now in
    let place = place_of c.args.place.now in
    let hand = run_of c.args.arriving.now.yielding.hand in
    (λ i. sym (sym c.awaits.ensures ∙ c.if-not-awaits.false) i
    && (sym (sym c.is_placed.ensures ∙ c.if-not-is_placed.true) i
    && all_of (may_arrive line c.args.centre k c.args.self.now.supervision.engine place.track) hand))
    ∙ may_be_taken line c.args.centre k c.args.self.now c.args.book.now c.args.registrar.now there
    c.args.arriving.now.from c.args.arriving.now.number place hand

pub returns-clause-exact : goal.returns-clause-exact
returns-clause-exact c = λ k there.
    let line = c.args.line.now in
    let place = place_of c.args.place.now in
    let hand = run_of c.args.arriving.now.yielding.hand in
    c.may_arrive.ensures k (has_pages line c.args.centre k c.args.self.now c.args.book.now c.args.registrar.now there)
    ∙ (λ i. sym (sym c.awaits.ensures ∙ c.if-not-awaits.false) i
    && (sym (sym c.is_placed.ensures ∙ c.if-not-is_placed.false) i
    && all_of (may_arrive line c.args.centre k (c.nid_engine.ensures i) place.track) hand))
    ∙ may_be_taken line c.args.centre k c.args.self.now c.args.book.now c.args.registrar.now there
    c.args.arriving.now.from c.args.arriving.now.number place hand

pub returns-clause-may : goal.returns-clause-may
returns-clause-may c = λ yes.
    let line = c.args.line.now in
    let p = c.args.self.now in
    let book = c.args.book.now in
    let hand = run_of c.args.arriving.now.yielding.hand in
    record {
      none =
          no_mission_here (is_taking_under c.args.arriving.now.number
          (expected_from p.expectations c.args.arriving.now.from))
          (is_here c.args.registrar.now p.supervision.number) p.supervision.mission
          (sym c.awaits.ensures ∙ c.if-not-awaits.false);
      on_line =
          run_of_line line c.args.place.now.track hand _ _ c.requires.some
          (sym c.is_placed.ensures ∙ c.if-not-is_placed.false);
      own = λ s here own.
          own_out line c.args.centre p.supervision.engine c.args.place.now.track book hand c.requires.book
          ((λ i.
          all_of (may_arrive line c.args.centre (with_book book (beginning line c.args.centre))
          (sym c.nid_engine.ensures i) c.args.place.now.track) hand)
          ∙ sym (c.may_arrive.ensures (with_book book (beginning line c.args.centre))
          (record { homes = c.requires.book; has_book = λ e. refl; has_wish = λ e. refl })) ∙ yes) s here own;
    }
