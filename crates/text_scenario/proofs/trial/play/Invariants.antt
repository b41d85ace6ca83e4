use Rattle.std.proofs.Common.{◌≡◌, drop}
use Rattle.rbc_world.specs.Views.{answer_of}
use Rattle.rbc_world.specs.World.{line_of, state_of}
use Rattle.text_scenario.proofs.Leading.{Goes}
use Rattle.text_scenario.proofs.trial.play.Given as goal

abbrev pub invariant-loop-k : goal.invariant-loop-k
invariant-loop-k l = record {
  line : line_of l.world ≡ line_of l.fn.world;
  goes : Goes l.line (state_of l.fn.world) l.fn.last.centre (answer_of l.fn.last.answer) l.steps (drop l.k l.steps) l.k
      (state_of l.world) l.last.centre (answer_of l.last.answer);
}
