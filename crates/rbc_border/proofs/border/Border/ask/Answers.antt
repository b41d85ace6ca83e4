use Rattle.std.proofs.Common.{◌-◌, ◌∙◌, ap, min, Some, sym}
use Rattle.rbc_border.proofs.border.Border.ask.Goals as goal
use Rattle.rbc_border.proofs.Borders.{due, not_due}
use Rattle.rbc_border.specs.Border.{BorderState, with_border}
use Rattle.rbc_spec.specs.Acts.{send}
use Rattle.rbc_spec.specs.Frame.{RouteAsk}

pub returns-then-not-is_due-clause-exact : goal.returns-then-not-is_due-clause-exact
returns-then-not-is_due-clause-exact c k m border is of =
    not_due c.args.line.now c.args.next c.args.way k c.args.self.now m border is of
    (sym c.is_due.ensures.value ∙ c.if-not-is_due.true)

pub returns-clause-exact : goal.returns-clause-exact
returns-clause-exact c k m border is of =
    due c.args.line.now c.args.next c.args.way k c.args.self.now m border is of c.next_after-next_after.result
    c.min.result (sym c.is_due.ensures.value ∙ c.if-not-is_due.false) c.next_after-next_after.ensures
    (c.min.ensures ∙ ap (λ n. min (32 - c.args.way.hand.count) (512 - n)) c.next_after-next_after.ensures)
    ∙ ap (λ (b : BorderState).
    send c.args.next (RouteAsk c.args.self.now.engine c.next_after-next_after.result c.min.result)
    (with_border (record b { asked = Some c.next_after-next_after.result }) k)) (sym c.self.view_is)
