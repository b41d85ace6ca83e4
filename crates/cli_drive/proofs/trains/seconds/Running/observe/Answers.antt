use Rattle.std.proofs.Common.{◌∙◌, ◌≡◌, ap}
use Rattle.cli_drive.proofs.trains.seconds.Running.observe.Goals as goal
use Rattle.cli_drive.specs.Obedience.{ends_of}

pub returns-in_err-look : goal.returns-in_err-look
returns-in_err-look g c =
    let looked : c.look.new.self.trains.items ≡ c.listen.new.self.trains.items = cc in
    ap ends_of looked ∙ c.listen.ensures

pub returns : goal.returns
returns g c =
    let looked : c.show_often.new.self.trains.items ≡ c.listen.new.self.trains.items = cc in
    ap ends_of looked ∙ c.listen.ensures
