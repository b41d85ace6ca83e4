use Rattle.std.proofs.Common.{[], ◌∙◌, ap}
use Rattle.rbc_spec.specs.Centre.{Centre}
use Rattle.rbc_train.proofs.Desk.{expects_left, has_expectations}
use Rattle.rbc_train.proofs.train.TrainState.cancelled.Goals as goal
use Rattle.rbc_train.specs.Desk.{replied}

pub returns-clause-exact : goal.returns-clause-exact
returns-clause-exact c = λ line n book rights k has.
    let p = c.args.self.now in
    let t = p.supervision.engine in
    c.cancelled.ensures.exact line t k (has_expectations line n k p book rights has)
    ∙ ap (λ (x : Centre). replied x [] []) (expects_left line n k p book rights has c.cancelled.new.self)
