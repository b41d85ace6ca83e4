use Rattle.std.proofs.Common.{[], if◌then◌else◌, ◌∙◌, ◌≡◌, ap, arith, false, length, nat_lt, true}
use Rattle.std.proofs.lemmas.Bool.Decides.{nat_tests}
use Rattle.rbc_spec.specs.Acts.{rest}
use Rattle.rbc_spec.specs.Centre.{Centre}
use Rattle.rbc_spec.specs.Links.{announced}
use Rattle.rbc_train.proofs.Desk.{expects_left, has_expectations, same_parts}
use Rattle.rbc_train.proofs.train.TrainState.announced.Goals as goal
use Rattle.rbc_train.specs.Desk.{replied}

pub returns-then-track-track_count-clause-exact : goal.returns-then-track-track_count-clause-exact
returns-then-track-track_count-clause-exact c = λ n book rights k has.
    let line = c.args.line.now in
    let p = c.args.self.now in
    let past = c.if-track-track_count.true in
    let count = c.track_count.ensures.value in
    let far : nat_lt c.args.track (length line.tracks) ≡ false = grind (arith, nat_tests) in
    ap (λ b. (if b then announced c.args.from c.args.number p.supervision.engine else rest) k) far
    ∙ same_parts line n k p book rights has

pub returns-clause-exact : goal.returns-clause-exact
returns-clause-exact c = λ n book rights k has.
    let line = c.args.line.now in
    let p = c.args.self.now in
    let t = p.supervision.engine in
    let past = c.if-track-track_count.false in
    let count = c.track_count.ensures.value in
    let near : nat_lt c.args.track (length line.tracks) ≡ true = grind (arith, nat_tests) in
    ap (λ b. (if b then announced c.args.from c.args.number t else rest) k) near
    ∙ c.announced.ensures.exact line t k (has_expectations line n k p book rights has)
    ∙ ap (λ (x : Centre). replied x [] []) (expects_left line n k p book rights has c.announced.new.self)
