use Rattle.cli_drive.proofs.Moving.{HasMoved}
use Rattle.cli_drive.proofs.trains.seconds.Running.move_all.Given as goal

abbrev pub invariant-loop-i : goal.invariant-loop-i
invariant-loop-i g l = HasMoved l.i l.initial.self.trains.items l.self.trains.items
