use Rattle.std.proofs.Common.{◌≡◌, map, take}
use Rattle.rbc_line.proofs.copies.copied_centres.Given as goal
use Rattle.rbc_line.specs.Views.{centre_of}

abbrev pub invariant-loop-centre : goal.invariant-loop-centre
invariant-loop-centre l = map centre_of l.copy.items ≡ map centre_of (take l.centre-index l.centres)
