use Rattle.serve_workers.proofs.passing.pass_over.Given as goal

abbrev pub invariant-loop : goal.invariant-loop
invariant-loop g l = g.C.Carrier.is_of l.carrier l.seen
