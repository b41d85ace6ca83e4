use Rattle.rbc_allocation.proofs.Freed.{HasFreedBack}
use Rattle.rbc_allocation.proofs.sections.free_back.Given as goal

abbrev pub invariant-loop : goal.invariant-loop
invariant-loop l = HasFreedBack l.nid_engine l.counter l.fn.hand l.hand l.fn.book l.book
