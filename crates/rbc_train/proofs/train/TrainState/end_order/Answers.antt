use Rattle.std.proofs.Common.{◌∙◌, sym}
use Rattle.rbc_train.proofs.Gone.{is_ordered, stays_here, still_used}
use Rattle.rbc_train.proofs.RouteFrames.{has_pages, same_use}
use Rattle.rbc_train.proofs.train.TrainState.end_order.Goals as goal

pub returns-then-not-is_gone-clause-exact : goal.returns-then-not-is_gone-clause-exact
returns-then-not-is_gone-clause-exact c = λ rights k has.
    stays_here c.args.line.now c.args.centre k c.args.self.now c.args.book.now rights has
    (sym c.is_gone.ensures ∙ c.if-not-is_gone.true)

pub returns-then-uses_some-clause-exact : goal.returns-then-uses_some-clause-exact
returns-then-uses_some-clause-exact c = λ rights k has.
    let line = c.args.line.now in
    let p = c.args.self.now in
    still_used line c.args.centre k p c.args.book.now rights has
    (same_use line c.args.centre k c.nid_engine.result p.supervision.engine c.uses_some.result c.nid_engine.ensures
    (c.uses_some.ensures c.args.centre k (has_pages line c.args.centre k p c.args.book.now rights has))
    ∙ c.if-uses_some.true)

pub returns-clause-exact : goal.returns-clause-exact
returns-clause-exact c = λ rights k has.
    let line = c.args.line.now in
    let p = c.args.self.now in
    is_ordered line c.args.centre k p c.args.book.now rights has (sym c.is_gone.ensures ∙ c.if-not-is_gone.false)
    (same_use line c.args.centre k c.nid_engine.result p.supervision.engine c.uses_some.result c.nid_engine.ensures
    (c.uses_some.ensures c.args.centre k (has_pages line c.args.centre k p c.args.book.now rights has))
    ∙ c.if-uses_some.false)
    c.order_end.new.self c.order_end.result c.order_end.ensures.says.left c.order_end.ensures.exact
