use Rattle.std.proofs.Common.{◌∙◌}
use Rattle.rbc_centre.proofs.centre.Centre.deliver.Goals as goal
use Rattle.rbc_centre.proofs.Turns.{on_err, state_same}
use Rattle.rbc_spec.specs.Step.{Deliver, refusal, taken}

pub returns-in_err-make_room_for-clause-err : goal.returns-in_err-make_room_for-clause-err
returns-in_err-make_room_for-clause-err c =
    on_err c.from_residual.result
    (state_same c.args.self.now c.make_room_for.new.self c.in_err-make_room_for.ensures.same)

pub take_frame-requires-clause-allowed : goal.take_frame-requires-clause-allowed
take_frame-requires-clause-allowed c =
    let same = c.in_ok-make_room_for.ensures.same in
    (λ i. refusal (same.line i) (same.number i) (state_same c.args.self.now c.make_room_for.new.self same i)
    (Deliver c.args.from c.args.frame.now)) ∙ c.requires.allowed

pub returns-clause-exact : goal.returns-clause-exact
returns-clause-exact c =
    let same = c.in_ok-make_room_for.ensures.same in
    c.take_frame.ensures.exact
    ∙ (λ i. taken (same.line i) (same.number i) (Deliver c.args.from c.args.frame.now)
    (state_same c.args.self.now c.make_room_for.new.self same i))
