use Rattle.std.proofs.Common.{◌≡◌, List, subst, sym}
use Rattle.cli_drive.specs.Obedience.{RunByRules}
use Rattle.cli_drive.specs.declared.trains.train.Train.{Train}
use Rattle.cli_drive.proofs.trains.seconds.Running.act.Goals as goal

pub returns : goal.returns
returns g c =
    let released : c.release.new.self.trains.items ≡ c.args.self.now.trains.items = cc in
    let sent : c.send_due.new.self.trains.items ≡ c.move_all.new.self.trains.items = cc in
    subst (λ (xs : List Train). RunByRules c.args.self.now.trains.items xs) (sym sent)
    (subst (λ (xs : List Train). RunByRules xs c.move_all.new.self.trains.items) released c.in_ok-move_all.ensures)
