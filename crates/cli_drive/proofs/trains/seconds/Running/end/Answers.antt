use Rattle.std.proofs.Common.{◌≤◌, length, List, subst, ℕ}
use Rattle.std.specs.Io.KnownBytes.{Appends}
use Rattle.cli_drive.proofs.TrainRows.{ending}
use Rattle.cli_drive.proofs.trains.seconds.Running.end.Goals as goal
use Rattle.cli_drive.specs.Reports.{arrivals_row}
use Rattle.cli_drive.specs.declared.trains.train.Train.{Train}

pub returns : goal.returns
returns g c =
    ending c.print.result _ _ _ _ _ c.args.self.now.line.now _ c.args.self.now.trains.items _
    c.args.self.now.tally.are_apart c.in_ok-show_all.ensures c.in_ok-print_counts.ensures
    (subst (λ (xs : List Train). (arrived : ℕ) × (arrived ≤ length xs)
    × Appends (g.W.Write.contents c.print_counts.new.out) (g.W.Write.contents c.print_arrivals.new.out)
    (arrivals_row arrived (length xs))) c.deref.ensures.value c.in_ok-print_arrivals.ensures) c.print.ensures
