use Rattle.std.proofs.Common.{◌<◌, not}
use Rattle.rbc_border.proofs.homes.part_at.Given as goal
use Rattle.rbc_border.proofs.Lists.{HasPassed}
use Rattle.rbc_border.specs.Homes.{is_of}
use Rattle.rbc_spec.specs.Line.{IsLine}

abbrev pub invariant-loop-k : goal.invariant-loop-k
invariant-loop-k l = record {
  before : HasPassed (λ s. not (is_of l.line l.home l.track s)) l.sections.first l.k;
  line : 0 < l.k → IsLine l.line;
}
