use Rattle.std.proofs.Common.{◌≡◌, map, take}
use Rattle.rbc_line.proofs.build.train_rows.Given as goal
use Rattle.rbc_line.specs.DraftViews.{centre_view, train_view}
use Rattle.rbc_line.specs.LineFile.{line_train}
use Rattle.rbc_line.specs.Views.{train_of}

abbrev pub invariant-loop-train : goal.invariant-loop-train
invariant-loop-train l =
    map train_of l.rows.items
    ≡ map (line_train (map centre_view l.centres)) (map train_view (take l.train-index l.trains))
