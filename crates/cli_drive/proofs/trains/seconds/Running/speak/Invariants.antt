use Rattle.cli_drive.specs.Changes.{ChangesAt}
use Rattle.cli_drive.specs.Obedience.{KeepsEnds}
use Rattle.cli_drive.proofs.trains.seconds.Running.speak.Given as goal

abbrev pub invariant-loop-centre : goal.invariant-loop-centre
invariant-loop-centre g l = ChangesAt KeepsEnds l.i l.initial.self.trains.items l.self.trains.items
