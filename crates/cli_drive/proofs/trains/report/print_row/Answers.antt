use Rattle.std.proofs.Common.{refl, rules}
use Rattle.cli_drive.proofs.trains.report.print_row.Goals as goal
use Rattle.cli_drive.specs.Rows.{train_row}

pub returns : goal.returns
returns g c = (
  train_row c.args.line.now c.args.second c.args.train.now c.limit_of.result,
  record { limit = c.limit_of.result; may_reach = c.limit_of.ensures; text = refl },
  search rules,
)
