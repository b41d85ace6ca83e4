use Rattle.std.proofs.Common.{◌∙◌, ap, option_map, refl, sym}
use Rattle.rbc_train.proofs.train.TrainState.supervised.Goals as goal
use Rattle.rbc_train.specs.Guards.{mission_in}

pub returns-in-Some : goal.returns-in-Some
returns-in-Some c = sym c.mission.ensures.value ∙ ap (option_map (mission_in c.args.self.now.supervision)) c.in-Some.is

pub returns-in-None : goal.returns-in-None
returns-in-None c =
    (sym c.mission.ensures.value ∙ ap (option_map (mission_in c.args.self.now.supervision)) c.in-None.is, refl)
