use Rattle.rbc_world.proofs.Shown.{one_more_of}
use Rattle.rbc_world.proofs.world.World.train_views.Goals as goal
use Rattle.rbc_world.specs.View.{IsTrainSeen}
use Rattle.rbc_world.specs.World.{line_of, state_of}

pub loop-i-preserved : goal.loop-i-preserved
loop-i-preserved c =
    one_more_of (IsTrainSeen (line_of c.args.self.now) (state_of c.args.self.now)) c.loop-i.i c.loop-i.views.items
    c.push.new.self.items _ c.loop-i.invariant
    (record {
      engine = c.engine_of-nid_engine.ensures;
      sessions = c.in_ok-sessions.ensures;
      mission = c.mission_view.ensures;
    }) c.in_ok-push.ensures.items
