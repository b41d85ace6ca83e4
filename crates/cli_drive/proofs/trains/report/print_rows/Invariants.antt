use Rattle.std.proofs.Common.{List, take, ℕ}
use Rattle.std.specs.Io.KnownBytes.{Appends}
use Rattle.cli_drive.specs.Rows.{AreTrainRows}
use Rattle.cli_drive.proofs.trains.report.print_rows.Given as goal

abbrev pub invariant-loop-train : goal.invariant-loop-train
invariant-loop-train g l =
    (rows : List ℕ) × AreTrainRows l.line l.second (take l.train-index l.trains) rows
    × Appends (g.W.Write.contents l.initial.out) (g.W.Write.contents l.out) rows
