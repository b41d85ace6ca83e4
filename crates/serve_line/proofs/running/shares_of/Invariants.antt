use Rattle.serve_line.proofs.running.shares_of.Given as goal
use Rattle.serve_line.specs.Lists.{Continues}

abbrev pub invariant-loop-endpoint : goal.invariant-loop-endpoint
invariant-loop-endpoint l = Continues l.initial.all.items l.all.items

abbrev pub invariant-loop-link : goal.invariant-loop-link
invariant-loop-link l = Continues l.fn.begun.items l.all.items
