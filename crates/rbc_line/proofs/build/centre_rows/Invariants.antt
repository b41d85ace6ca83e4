use Rattle.std.proofs.Common.{◌≡◌, map, take}
use Rattle.rbc_line.proofs.build.centre_rows.Given as goal
use Rattle.rbc_line.specs.DraftViews.{centre_view}
use Rattle.rbc_line.specs.LineFile.{line_centre}
use Rattle.rbc_line.specs.Views.{centre_of}

abbrev pub invariant-loop-centre : goal.invariant-loop-centre
invariant-loop-centre l = map centre_of l.rows.items ≡ map line_centre (map centre_view (take l.centre-index l.centres))
