use Rattle.std.proofs.Common.{◌≡◌, drop, map}
use Rattle.rbc_line.proofs.read.read_trains.Given as goal
use Rattle.rbc_line.proofs.ReadSteps.{joined}
use Rattle.rbc_line.specs.DraftViews.{train_view}
use Rattle.rbc_line.specs.LineFile.{each_of, file_train}
use Rattle.toml.specs.View.{items_view}

abbrev pub invariant-loop-item : goal.invariant-loop-item
invariant-loop-item l =
    each_of file_train (items_view l.items)
    ≡ joined (map train_view l.trains.items) (each_of file_train (items_view (drop l.item-index l.items)))
