-- The train of the unit after the message, at its own ends.
use Rattle.cli_drive.proofs.trains.train.Train.say.Goals as goal

pub returns-in-Ok-clause-sent : goal.returns-in-Ok-clause-sent
returns-in-Ok-clause-sent c = λ is_sent. c.in-Ok.ensures.ok c.args.self.now.ends
