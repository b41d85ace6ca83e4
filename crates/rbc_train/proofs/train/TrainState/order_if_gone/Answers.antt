use Rattle.std.proofs.Common.{if◌then◌else◌, ◌∙◌, ap}
use Rattle.rbc_spec.specs.Acts.{end_order, rest}
use Rattle.rbc_train.proofs.Gone.{comes_again}
use Rattle.rbc_train.proofs.train.TrainState.order_if_gone.Goals as goal

pub returns-then-not-is_gone-clause-exact : goal.returns-then-not-is_gone-clause-exact
returns-then-not-is_gone-clause-exact c =
    λ k phase said. comes_again c.args.line.now c.args.centre k c.args.self.now phase said c.args.is_gone
    c.if-not-is_gone.true

pub returns-clause-exact : goal.returns-clause-exact
returns-clause-exact c = λ k phase said.
    ap (λ b. (if b then end_order c.args.line.now c.args.centre c.args.self.now.supervision.engine else rest) k)
    c.if-not-is_gone.false ∙ c.order_end.ensures.exact k phase said
