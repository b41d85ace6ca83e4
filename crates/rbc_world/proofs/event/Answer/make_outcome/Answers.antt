use Rattle.rbc_world.proofs.event.Answer.make_outcome.Goals as goal

pub returns-in-NoCentre : goal.returns-in-NoCentre
returns-in-NoCentre c = c.clear.ensures.outcome
