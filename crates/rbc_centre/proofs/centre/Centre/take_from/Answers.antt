use Rattle.std.proofs.Common.{◌∙◌}
use Rattle.rbc_centre.proofs.centre.Centre.take_from.Goals as goal
use Rattle.rbc_centre.proofs.Turns.{on_err, state_same}
use Rattle.rbc_msgs.specs.StepMessage.{step_message}
use Rattle.rbc_spec.specs.Step.{refusal, taken, Train}

pub returns-in_err-make_room-clause-err : goal.returns-in_err-make_room-clause-err
returns-in_err-make_room-clause-err c =
    on_err c.from_residual.result (state_same c.args.self.now c.make_room.new.self c.in_err-make_room.ensures.same)

pub hear_train-requires-clause-allowed : goal.hear_train-requires-clause-allowed
hear_train-requires-clause-allowed c =
    let same = c.in_ok-make_room.ensures.same in
    (λ i. refusal (same.line i) (same.number i) (state_same c.args.self.now c.make_room.new.self same i)
    (Train (step_message c.args.message.now))) ∙ c.requires.allowed

pub returns-clause-exact : goal.returns-clause-exact
returns-clause-exact c =
    let same = c.in_ok-make_room.ensures.same in
    c.hear_train.ensures.exact
    ∙ (λ i. taken (same.line i) (same.number i) (Train (step_message c.args.message.now))
    (state_same c.args.self.now c.make_room.new.self same i))
