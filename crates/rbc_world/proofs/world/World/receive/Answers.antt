use Rattle.std.proofs.Common.{◌<◌, ◌≤◌, length, refl, Result, rules, subst, sym}
use Rattle.rbc_spec.specs.Step.{Refusal}
use Rattle.rbc_spec.specs.World.{Answer, World}
use Rattle.rbc_world.proofs.Steps.{message_step, no_centre, fault_step}
use Rattle.rbc_world.proofs.Wanted.{heard_wants}
use Rattle.rbc_world.proofs.world.World.receive.Goals as goal
use Rattle.rbc_world.specs.Answers.{Gives}
use Rattle.rbc_world.specs.Views.{answer_of}
use Rattle.rbc_world.specs.World.{state_of}

pub returns-then-c-len-clause-exact : goal.returns-then-c-len-clause-exact
returns-then-c-len-clause-exact c =
    let past : length c.args.self.now.centres.items ≤ c.args.c = search rules in
    no_centre _ _ c.args.self.now.centres.items _ _ c.args.self.now.each_centre past

pub returns-in-Ok-clause-exact : goal.returns-in-Ok-clause-exact
returns-in-Ok-clause-exact c =
    let same = message_step c.args.self.now.line (state_of c.args.self.now) c.args.c _ c.in-Ok.message
    c.in-Ok.ensures.exact in
    subst (λ (step : Result (Answer × World) Refusal).
    Gives (λ u. (answer_of c.tell.new.answer, state_of c.tell.new.self)) c.tell.result step) (sym same)
    c.tell.ensures.exact

pub returns-in-Ok-clause-memory : goal.returns-in-Ok-clause-memory
returns-in-Ok-clause-memory c =
    let within : c.args.c < length c.args.self.now.centres.items = search rules in
    heard_wants c.args.self.now.line c.args.self.now.centres.items (state_of c.args.self.now).trains c.args.c _
    c.args.self.now.each_centre within _ c.tell.result c.in-Ok.ensures.exact c.tell.ensures.memory

pub returns-in_default : goal.returns-in_default
returns-in_default c =
    let within : c.args.c < length c.args.self.now.centres.items = search rules in
    record {
      line = refl;
      exact =
          fault_step c.args.self.now.line (state_of c.args.self.now) c.args.self.now.centres.items c.args.c _
          c.in-Err.fault c.args.self.now.each_centre within (c.in-Err.ensures.exact c.in_default.not-Memory);
      memory = tt;
      err = tt;
    }
