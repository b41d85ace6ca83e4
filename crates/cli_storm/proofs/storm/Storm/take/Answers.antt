use Rattle.std.proofs.Common.{[], refl, subst, sym}
use Rattle.cli_storm.proofs.storm.Storm.take.Goals as goal
use Rattle.rbc_spec.specs.World.{World, world_step}
use Rattle.text_script.specs.rbc_world.Answers.{IsRefusal}
use Rattle.text_script.specs.rbc_world.Views.{event_of}
use Rattle.text_script.specs.rbc_world.World.{line_of}

pub returns-in-Err-step-clause-told : goal.returns-in-Err-step-clause-told
returns-in-Err-step-clause-told g c =
    let refused =
    subst (λ (w : World). IsRefusal c.in-Err-step.fault
    (world_step (line_of c.args.self.now.world) w (event_of c.args.event.now))) (sym c.in-Err-step.ensures.err)
    c.in-Err-step.ensures.exact in (
      [],
      [],
      c.args.event.now,
      c.args.observer.now,
      refl,
      (c.in-Err-step.ensures.err, refl),
      c.in_default.ensures,
      refused,
    )
