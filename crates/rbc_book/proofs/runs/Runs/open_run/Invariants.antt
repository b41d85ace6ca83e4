use Rattle.std.proofs.Common.{◌-◌}
use Rattle.rbc_book.proofs.runs.Runs.open_run.Given as goal
use Rattle.rbc_book.proofs.Sheets.{HasOpened}

abbrev pub invariant-loop-count : goal.invariant-loop-count
invariant-loop-count l = HasOpened l.self l.first l.count

abbrev pub decreases-loop-count : goal.decreases-loop-count
decreases-loop-count l = l.most - l.count
