use Rattle.std.proofs.Common.{◌∙◌, Result, subst, sym}
use Rattle.rbc_spec.specs.Step.{Refusal}
use Rattle.rbc_spec.specs.World.{Answer, frame_sent, World}
use Rattle.rbc_world.proofs.Steps.{delivered, not_sent}
use Rattle.rbc_world.proofs.Wanted.{delivery_wants}
use Rattle.rbc_world.proofs.world.World.deliver.Goals as goal
use Rattle.rbc_world.specs.Answers.{Gives}
use Rattle.rbc_world.specs.Views.{answer_of}
use Rattle.rbc_world.specs.World.{line_of, state_of}

pub tell-requires : goal.tell-requires
tell-requires c = (c.args.number, sym c.frame_sent.ensures.value ∙ c.in-Some.is)

pub returns-in-Some-clause-exact : goal.returns-in-Some-clause-exact
returns-in-Some-clause-exact c =
    let w = c.args.self.now in
    let sent = sym c.frame_sent.ensures.value ∙ c.in-Some.is in
    subst (λ (step : Result (Answer × World) Refusal).
    Gives (λ u. (answer_of c.tell.new.answer, state_of c.tell.new.self)) c.tell.result step)
    (sym (delivered (line_of w) (state_of w) c.args.from c.args.to c.args.number c.in-Some.frame
    (rw c.in-Some.is at c.frame_sent.ensures.receiver) sent)) c.tell.ensures.exact

pub returns-in-Some-clause-memory : goal.returns-in-Some-clause-memory
returns-in-Some-clause-memory c =
    let w = c.args.self.now in
    delivery_wants w.line (state_of w) c.args.to c.args.from c.in-Some.frame
    (frame_sent (state_of w) c.args.from c.args.to c.args.number) c.tell.result
    (sym c.frame_sent.ensures.value ∙ c.in-Some.is) c.tell.ensures.memory

pub returns-in-None-clause-exact : goal.returns-in-None-clause-exact
returns-in-None-clause-exact c =
    let w = c.args.self.now in
    not_sent (line_of w) (state_of w) c.args.from c.args.to c.args.number
    (sym c.frame_sent.ensures.value ∙ c.in-None.is)
