use Rattle.std.proofs.Common.{◌<◌, ◌^◌, ◌≡◌}
use Rattle.rbc_allocation.specs.Marks.{marked}
use Rattle.rbc_border.proofs.returning.bring_back.Given as goal
use Rattle.rbc_border.specs.Lending.{BringsBack, told_back}

abbrev pub invariant-loop-k : goal.invariant-loop-k
invariant-loop-k l = record {
  marks : marked l.run.first l.k l.marks
      ≡ told_back l.nid_engine (record { first = l.run.first; count = l.k }) l.fn.book;
  fits : l.marks < 2 ^ l.k;
  book : BringsBack l.nid_engine (record { first = l.run.first; count = l.k }) l.fn.book l.book;
}
