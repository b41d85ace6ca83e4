use Rattle.std.proofs.Common.{[], ◌++◌, arith, List, refl, subst}
use Rattle.std.proofs.lemmas.List.{take_all}
use Rattle.cli_drive.proofs.MessagePrints.{adds_both, adds_none}
use Rattle.cli_drive.proofs.TrainRows.{next_row}
use Rattle.cli_drive.specs.Rows.{AreTrainRows}
use Rattle.cli_drive.specs.declared.trains.train.Train.{Train}
use Rattle.cli_drive.proofs.trains.report.print_rows.Goals as goal

pub loop-train-init : goal.loop-train-init
loop-train-init g c = ([], refl, adds_none _)

pub loop-train-preserved : goal.loop-train-preserved
loop-train-preserved g c =
    let before = c.loop-train.invariant in
    let row = c.in_ok-print_row.ensures in (
      before.0 ++ row.0,
      next_row c.args.line.now c.args.second c.args.trains.now c.loop-train.train-index _ before.0 row.0
          c.loop-train-test.true before.1 row.1,
      adds_both _ _ _ before.0 row.0 before.2 row.2,
    )

pub returns : goal.returns
returns g c =
    let before = c.loop-train.invariant in
    let all = take_all c.loop-train.train-index c.args.trains.now (omega (c.loop-train-test.false, arith)) in (
      before.0,
      subst (λ (xs : List Train). AreTrainRows c.args.line.now c.args.second xs before.0) all before.1,
      before.2,
    )
