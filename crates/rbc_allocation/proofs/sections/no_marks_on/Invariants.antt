use Rattle.std.proofs.Common.{◌<◌, ◌^◌, ◌≡◌, ◌≤◌}
use Rattle.rbc_allocation.proofs.sections.no_marks_on.Given as goal
use Rattle.rbc_allocation.specs.Marks.{marked}

abbrev pub invariant-loop-k : goal.invariant-loop-k
invariant-loop-k l = record {
  begun : l.from ≤ l.k;
  marks : marked l.first l.k l.marks ≡ marked l.first l.from l.old;
  fits : l.marks < 2 ^ l.k;
}
