use Rattle.std.proofs.Common.{Result, subst, sym}
use Rattle.rbc_spec.specs.Step.{Refusal}
use Rattle.rbc_spec.specs.World.{Answer, World}
use Rattle.rbc_world.proofs.Steps.{set_told, unset_told}
use Rattle.rbc_world.proofs.Wanted.{set_wants, unset_wants}
use Rattle.rbc_world.proofs.world.World.take.Goals as goal
use Rattle.rbc_world.specs.Answers.{Gives}
use Rattle.rbc_world.specs.Views.{answer_of}
use Rattle.rbc_world.specs.World.{state_of}

pub returns-in-Set-clause-memory : goal.returns-in-Set-clause-memory
returns-in-Set-clause-memory c =
    rw c.in-Set.is
    (set_wants c.args.self.now.line (state_of c.args.self.now) c.in-Set.centre c.in-Set.section c.tell.result
    c.tell.ensures.memory)

pub returns-in-Unset-clause-memory : goal.returns-in-Unset-clause-memory
returns-in-Unset-clause-memory c =
    rw c.in-Unset.is
    (unset_wants c.args.self.now.line (state_of c.args.self.now) c.in-Unset.centre c.in-Unset.section
    c.tell-in-Unset.result c.tell-in-Unset.ensures.memory)

pub returns-in-Deliver-clause-exact : goal.returns-in-Deliver-clause-exact
returns-in-Deliver-clause-exact c = rw c.in-Deliver.is c.deliver.ensures.exact

pub returns-in-Set-clause-exact : goal.returns-in-Set-clause-exact
returns-in-Set-clause-exact c =
    rw c.in-Set.is
    (subst (λ (step : Result (Answer × World) Refusal).
    Gives (λ u. (answer_of c.tell.new.answer, state_of c.tell.new.self)) c.tell.result step)
    (sym (set_told _ _ _ _)) c.tell.ensures.exact)

pub returns-in-Unset-clause-exact : goal.returns-in-Unset-clause-exact
returns-in-Unset-clause-exact c =
    rw c.in-Unset.is
    (subst (λ (step : Result (Answer × World) Refusal).
    Gives (λ u. (answer_of c.tell-in-Unset.new.answer, state_of c.tell-in-Unset.new.self)) c.tell-in-Unset.result step)
    (sym (unset_told _ _ _ _)) c.tell-in-Unset.ensures.exact)
