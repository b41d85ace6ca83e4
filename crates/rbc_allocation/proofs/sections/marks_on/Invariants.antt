use Rattle.std.proofs.Common.{◌++◌, ◌+◌, ◌-◌, ◌<◌, ◌^◌, ◌≡◌, ◌≤◌}
use Rattle.rbc_allocation.proofs.sections.marks_on.Given as goal
use Rattle.rbc_allocation.specs.Marks.{marked}
use Rattle.rbc_allocation.specs.Sections.{wished}

abbrev pub invariant-loop-k : goal.invariant-loop-k
invariant-loop-k l = record {
  begun : l.from ≤ l.k;
  marks : marked l.first l.k l.marks ≡ marked l.first l.from l.old
      ++ wished l.nid_engine (record { first = l.first + l.from; count = l.k - l.from }) l.book;
  fits : l.marks < 2 ^ l.k;
}
