use Rattle.cli_drive.proofs.Moving.{moved_on, none_moved}
use Rattle.cli_drive.proofs.trains.seconds.Running.move_all.Goals as goal

pub loop-i-init : goal.loop-i-init
loop-i-init g c = none_moved c.args.self.now.trains.items

pub loop-i-preserved : goal.loop-i-preserved
loop-i-preserved g c =
    moved_on c.loop-i.i c.args.self.now.trains.items c.loop-i.self.trains.items c.move_one.new.self.trains.items
    c.loop-i.invariant c.in_ok-move_one.ensures
