use Rattle.std.proofs.Common.{[], refl, subst, sym}
use Rattle.rbc_spec.specs.World.{World, world_step}
use Rattle.rbc_world.specs.Answers.{IsRefusal}
use Rattle.rbc_world.specs.Views.{event_of}
use Rattle.rbc_world.specs.World.{line_of}
use Rattle.text_script.proofs.play.take.Goals as goal

pub returns-in-Err-step_to-clause-told : goal.returns-in-Err-step_to-clause-told
returns-in-Err-step_to-clause-told g c =
    let refused =
    subst (λ (w : World). IsRefusal c.in-Err-step_to.fault
    (world_step (line_of c.args.world.now) w (event_of c.args.event.now))) (sym c.in-Err-step_to.ensures.err)
    c.in-Err-step_to.ensures.exact in (
      [],
      [],
      c.args.event.now,
      c.args.observer.now,
      refl,
      (c.in-Err-step_to.ensures.err, refl),
      c.in_default.ensures,
      refused,
    )
