use Rattle.std.proofs.Common.{arith}
use Rattle.std.proofs.lemmas.Grind.{common_steps}
use Rattle.rbc_world.proofs.Centres.{each_pushed}
use Rattle.rbc_world.proofs.world.centres_of.Goals as goal
use Rattle.rbc_world.specs.States.{AtBeginning}

pub loop-c-preserved : goal.loop-c-preserved
loop-c-preserved c = record {
  count = grind (arith, common_steps);
  each = rw c.in_ok-push.ensures.items (each_pushed (AtBeginning c.args.line.now) _ _ c.loop-c.invariant.each
      (rw c.loop-c.invariant.count
      (record {
        line_of = c.in_ok-new.ensures.line;
        number_of = c.in_ok-new.ensures.number;
        state_of = c.in_ok-new.ensures.beginning;
      })));
}
