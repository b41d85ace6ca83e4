use Rattle.rbc_spec.specs.ReadOff.{read_off}
use Rattle.rbc_world.proofs.Shown.{one_more_of}
use Rattle.rbc_world.proofs.world.World.session_views.Goals as goal
use Rattle.rbc_world.specs.View.{ShowsSession}
use Rattle.rbc_world.specs.World.{line_of, state_of}

pub loop-c-preserved : goal.loop-c-preserved
loop-c-preserved c =
    one_more_of (λ d p. ShowsSession (read_off (line_of c.args.self.now) (state_of c.args.self.now)) c.args.nid_engine d
    p) c.loop-c.c c.loop-c.views.items c.push.new.self.items c.session_view.result
    c.loop-c.invariant c.session_view.ensures c.in_ok-push.ensures.items
