use Rattle.std.proofs.Common.{◌<◌, ◌^◌, ◌≡◌}
use Rattle.rbc_allocation.proofs.Freed.{HasFreedFront}
use Rattle.rbc_allocation.proofs.sections.free_front.Given as goal
use Rattle.rbc_allocation.specs.Marks.{marked}
use Rattle.rbc_allocation.specs.Sections.{wished}

abbrev pub invariant-loop : goal.invariant-loop
invariant-loop l = record {
  freed : HasFreedFront l.nid_engine l.counter l.fn.hand l.hand l.fn.book l.book;
  marks : marked l.fn.hand.first l.counter l.marks
      ≡ wished l.nid_engine (record { first = l.fn.hand.first; count = l.counter }) l.fn.book;
  fits : l.marks < 2 ^ l.counter;
}
