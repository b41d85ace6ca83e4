use Rattle.cli_drive.specs.Obedience.{KeepTrains}
use Rattle.cli_drive.proofs.trains.seconds.Running.collect_one.Given as goal

abbrev pub invariant-loop : goal.invariant-loop
invariant-loop g l = KeepTrains l.fn.self.trains.items l.self.trains.items
