use Rattle.std.proofs.Common.{[], ◌+◌, ◌∙◌, ◌∷◌, ap, sym}
use Rattle.rbc_spec.specs.Centre.{is_up}
use Rattle.rbc_spec.specs.Message.{unknown_group}
use Rattle.rbc_train.proofs.Gone.{not_up, ordered}
use Rattle.rbc_train.proofs.train.TrainState.order_end.Goals as goal
use Rattle.rbc_train.specs.declared.train.TrainState.{TrainState}
use Rattle.rbc_train.specs.Desk.{counted_to, replied}

pub returns-then-not-is_up-clause-exact : goal.returns-then-not-is_up-clause-exact
returns-then-not-is_up-clause-exact c = λ k phase said.
    not_up c.args.line.now c.args.centre k c.args.self.now phase said
    (ap is_up (sym c.phase.ensures) ∙ sym c.is_up.ensures ∙ c.if-not-is_up.true)

pub returns-clause-exact : goal.returns-clause-exact
returns-clause-exact c = λ k phase said.
    let p = c.args.self.now in
    ordered c.args.line.now c.args.centre k p phase said
    (ap is_up (sym c.phase.ensures) ∙ sym c.is_up.ensures ∙ c.if-not-is_up.false)
    ∙ (λ i.
    replied (counted_to p.supervision.engine ((ap (λ (q : TrainState). q.said) (sym c.answer.ensures.counted)) i) k)
    ((ap (λ b. record {
      nid_engine = p.supervision.engine;
      message = record { t_train = p.said + 1; nid_lrbg = unknown_group; body = b };
    }) (sym c.session_order.ensures) ∙ sym c.answer.ensures.saying) i ∷ []) [])
