use Rattle.cli_drive.proofs.Moving.{run_and_kept}
use Rattle.cli_drive.proofs.trains.seconds.Running.second.Goals as goal

pub returns : goal.returns
returns g c =
    run_and_kept c.args.self.now.trains.items c.act.new.self.trains.items c.observe.new.self.trains.items
    c.in_ok-act.ensures c.observe.ensures
