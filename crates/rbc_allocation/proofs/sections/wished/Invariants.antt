use Rattle.std.proofs.Common.{◌<◌, ◌^◌, ◌≡◌}
use Rattle.rbc_allocation.proofs.sections.wished.Given as goal
use Rattle.rbc_allocation.specs.Marks.{marked}
use Rattle.rbc_allocation.specs.Sections.{wished}

abbrev pub invariant-loop-k : goal.invariant-loop-k
invariant-loop-k l = record {
  marks : marked l.sections.first l.k l.marks
      ≡ wished l.nid_engine (record { first = l.sections.first; count = l.k }) l.book;
  fits : l.marks < 2 ^ l.k;
}
