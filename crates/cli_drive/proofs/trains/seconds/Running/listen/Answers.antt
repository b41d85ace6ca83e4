use Rattle.std.proofs.Common.{◌∙◌}
use Rattle.cli_drive.proofs.Moving.{ends_kept}
use Rattle.cli_drive.proofs.trains.seconds.Running.listen.Goals as goal

pub returns-in_err-collect : goal.returns-in_err-collect
returns-in_err-collect g c = ends_kept c.args.self.now.trains.items c.collect.new.self.trains.items c.collect.ensures

pub returns : goal.returns
returns g c =
    c.deliver.ensures.ends ∙ ends_kept c.args.self.now.trains.items c.collect.new.self.trains.items c.collect.ensures
