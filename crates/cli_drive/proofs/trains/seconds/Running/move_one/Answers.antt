use Rattle.cli_drive.proofs.Moving.{runs_then_speaks}
use Rattle.cli_drive.proofs.OneChange.{changes_then}
use Rattle.cli_drive.specs.Obedience.{HasRun, KeepsEnds, RunsByRules}
use Rattle.cli_drive.proofs.trains.seconds.Running.move_one.Goals as goal

pub returns : goal.returns
returns g c =
    changes_then HasRun KeepsEnds RunsByRules runs_then_speaks c.args.self.now.trains.items
    c.run_one.new.self.trains.items c.speak.new.self.trains.items c.args.i c.run_one.ensures c.in_ok-speak.ensures
