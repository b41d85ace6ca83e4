use Rattle.cli_drive.specs.Obedience.{KeepTrains}
use Rattle.cli_drive.proofs.trains.seconds.Running.collect.Given as goal

abbrev pub invariant-loop-train : goal.invariant-loop-train
invariant-loop-train g l = KeepTrains l.fn.self.trains.items l.self.trains.items

abbrev pub invariant-loop-centre : goal.invariant-loop-centre
invariant-loop-centre g l = KeepTrains l.fn.self.trains.items l.self.trains.items
