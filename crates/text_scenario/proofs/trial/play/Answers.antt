use Rattle.std.proofs.Common.{◌∙◌, subst}
use Rattle.rbc_world.specs.Views.{answer_of}
use Rattle.rbc_world.specs.World.{state_of}
use Rattle.text_scenario.proofs.Leading.{misses, one_more, refuses}
use Rattle.text_scenario.proofs.trial.play.Goals as goal
use Rattle.text_scenario.specs.declared.trial.Move.{Move}
use Rattle.text_scenario.specs.Holds.{IsMove}

pub returns-in-Missed-clause-verdict : goal.returns-in-Missed-clause-verdict
returns-in-Missed-clause-verdict c =
    misses c.args.line.now (state_of c.args.world.now) c.args.last.now.centre (answer_of c.args.last.now.answer)
    c.args.steps.now c.loop-k.k c.index-steps-k.result (state_of c.loop-k.world) c.loop-k.last.centre
    (answer_of c.loop-k.last.answer) c.loop-k-test.true c.index-steps-k.is c.loop-k.invariant.goes
    (subst (λ (m : Move). IsMove c.args.line.now (state_of c.loop-k.world) c.loop-k.last.centre
    (answer_of c.loop-k.last.answer) c.index-steps-k.result.said m (state_of c.play_one.new.world)
    c.play_one.new.last.centre (answer_of c.play_one.new.last.answer)) c.in-Missed.is c.in_ok-play_one.ensures.moved)

pub returns-in-Refused-clause-verdict : goal.returns-in-Refused-clause-verdict
returns-in-Refused-clause-verdict c =
    refuses c.args.line.now (state_of c.args.world.now) c.args.last.now.centre (answer_of c.args.last.now.answer)
    c.args.steps.now c.loop-k.k c.index-steps-k.result (state_of c.loop-k.world) c.loop-k.last.centre
    (answer_of c.loop-k.last.answer) c.loop-k-test.true c.index-steps-k.is c.loop-k.invariant.goes c.in-Refused.fault
    (subst (λ (m : Move). IsMove c.args.line.now (state_of c.loop-k.world) c.loop-k.last.centre
    (answer_of c.loop-k.last.answer) c.index-steps-k.result.said m (state_of c.play_one.new.world)
    c.play_one.new.last.centre (answer_of c.play_one.new.last.answer)) c.in-Refused.is c.in_ok-play_one.ensures.moved)

pub loop-k-preserved : goal.loop-k-preserved
loop-k-preserved c = record {
  line = c.in_ok-play_one.ensures.line ∙ c.loop-k.invariant.line;
  goes =
      one_more c.args.line.now (state_of c.args.world.now) c.args.last.now.centre (answer_of c.args.last.now.answer)
      c.args.steps.now c.loop-k.k c.index-steps-k.result (state_of c.loop-k.world) c.loop-k.last.centre
      (answer_of c.loop-k.last.answer) c.loop-k-test.true c.index-steps-k.is c.loop-k.invariant.goes
      (state_of c.play_one.new.world) c.play_one.new.last.centre (answer_of c.play_one.new.last.answer)
      (subst (λ (m : Move). IsMove c.args.line.now (state_of c.loop-k.world) c.loop-k.last.centre
      (answer_of c.loop-k.last.answer) c.index-steps-k.result.said m (state_of c.play_one.new.world)
      c.play_one.new.last.centre (answer_of c.play_one.new.last.answer)) c.in-On.is c.in_ok-play_one.ensures.moved);
}
