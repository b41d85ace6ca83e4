use Rattle.rbc_border.proofs.lending.lend_run.Given as goal
use Rattle.rbc_border.specs.Lending.{LendsRun}

abbrev pub invariant-loop-k : goal.invariant-loop-k
invariant-loop-k l = LendsRun l.nid_engine (record { first = l.run.first; count = l.k }) l.fn.book l.book
