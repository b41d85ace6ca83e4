use Rattle.rbc_spec.specs.ReadOff.{read_off}
use Rattle.rbc_world.proofs.Shown.{one_more_of}
use Rattle.rbc_world.proofs.world.World.section_views.Goals as goal
use Rattle.rbc_world.specs.View.{ShowsSection}
use Rattle.rbc_world.specs.World.{line_of, state_of}

pub loop-s-preserved : goal.loop-s-preserved
loop-s-preserved c =
    one_more_of (λ s p. ShowsSection (read_off (line_of c.args.self.now) (state_of c.args.self.now)) s p) c.loop-s.s
    c.loop-s.views.items c.push.new.self.items c.section_view.result c.loop-s.invariant
    c.section_view.ensures c.in_ok-push.ensures.items
