use Rattle.std.proofs.Common.{◌≡◌, drop, map}
use Rattle.rbc_line.proofs.read.read_centres.Given as goal
use Rattle.rbc_line.proofs.ReadSteps.{joined}
use Rattle.rbc_line.specs.DraftViews.{centre_view}
use Rattle.rbc_line.specs.LineFile.{each_of, file_centre}
use Rattle.toml.specs.View.{items_view}

abbrev pub invariant-loop-item : goal.invariant-loop-item
invariant-loop-item l =
    each_of file_centre (items_view l.items)
    ≡ joined (map centre_view l.centres.items) (each_of file_centre (items_view (drop l.item-index l.items)))
