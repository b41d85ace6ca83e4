use Rattle.std.proofs.Common.{if◌then◌else◌, ◌∙◌, ap, arith, sym}
use Rattle.std.proofs.lemmas.Bool.Decides.{nat_tests}
use Rattle.rbc_line.specs.SectionRuns.{run_of}
use Rattle.rbc_spec.specs.Acts.{rest}
use Rattle.rbc_spec.specs.Links.{route_returned}
use Rattle.rbc_train.proofs.Desk.{same_parts}
use Rattle.rbc_train.proofs.RouteFrames.{all_sections, comes_home, has_pages, not_all_sections}
use Rattle.rbc_train.proofs.train.TrainState.route_returned.Goals as goal
use Rattle.rbc_train.specs.declared.heard.Heard.{Heard}
use Rattle.rbc_train.specs.declared.train.TrainState.{TrainState}
use Rattle.rbc_train.specs.Desk.{reply_left, with_parts}
use Rattle.rbc_train.specs.Sayings.{sayings_of}

pub returns-then-next_after-from-clause-exact : goal.returns-then-next_after-from-clause-exact
returns-then-next_after-from-clause-exact c = λ rights k has.
    let line = c.args.line.now in
    let p = c.args.self.now in
    let past = c.if-next_after-from.true in
    let last = c.next_after.ensures in
    let count = c.from.ensures ∙ c.section_count.ensures.value in
    ap (λ b. (if b then route_returned line c.args.centre p.supervision.engine (run_of c.args.sections) else rest) k)
    (not_all_sections line (run_of c.args.sections) c.requires.range.count.0 (grind (arith, nat_tests)))
    ∙ same_parts line c.args.centre k p c.args.book.now rights has
    ∙ ap (reply_left line c.args.centre p.supervision.engine (with_parts p c.args.book.now rights k))
    (sym c.requires.ready.out)

pub returns-clause-exact : goal.returns-clause-exact
returns-clause-exact c = λ rights k has.
    let line = c.args.line.now in
    let p = c.args.self.now in
    let t = p.supervision.engine in
    let told = c.bring_back-told.result in
    let book = c.bring_back-told.new.book in
    let q = c.end_order-saying.new.self in
    let past = c.if-next_after-from.false in
    let last = c.next_after.ensures in
    let count = c.from.ensures ∙ c.section_count.ensures.value in
    ap (λ b. (if b then route_returned line c.args.centre t (run_of c.args.sections) else rest) k)
    (all_sections line (run_of c.args.sections) (grind (arith, nat_tests)))
    ∙ comes_home line c.args.centre k p c.args.book.now rights has c.nid_engine.result
    (run_of c.args.sections) book told _ q (sayings_of c.end_order-saying.result) c.nid_engine.ensures
    (c.bring_back-told.ensures.exact line c.args.centre k (has_pages line c.args.centre k p c.args.book.now rights has))
    c.bring_back-told.ensures.book.homes
    (ap (λ (x : TrainState). x.supervision.engine) c.end_order-saying.ensures.says.left)
    (λ j there. c.end_order-saying.ensures.exact rights j there)
    ∙ ap (λ (x : Heard). reply_left line c.args.centre t (with_parts q book rights k)
    (record x { saying = c.end_order-saying.result; told = told })) (sym c.requires.ready.out)
