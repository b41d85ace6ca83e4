use Rattle.std.proofs.Common.{◌≡◌}
use Rattle.cli_picture.specs.Homes.{stretch_of}
use Rattle.cli_picture.proofs.grid.stretch_of.Given as goal

abbrev pub invariant-loop-s : goal.invariant-loop-s
invariant-loop-s l = l.stretch ≡ stretch_of l.line l.track l.home l.s
