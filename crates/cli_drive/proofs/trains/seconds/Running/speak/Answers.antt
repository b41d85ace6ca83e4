use Rattle.cli_drive.proofs.Moving.{keeps_on}
use Rattle.cli_drive.proofs.OneChange.{changes_then}
use Rattle.cli_drive.specs.Obedience.{KeepsEnds}
use Rattle.cli_drive.proofs.trains.seconds.Running.speak.Goals as goal

pub loop-centre-preserved : goal.loop-centre-preserved
loop-centre-preserved g c =
    changes_then KeepsEnds KeepsEnds KeepsEnds keeps_on c.args.self.now.trains.items
    c.loop-centre.self.trains.items c.speak_to.new.self.trains.items c.args.i c.loop-centre.invariant
    c.in_ok-speak_to.ensures
