use Rattle.serve_line.proofs.running.add_shares.Given as goal
use Rattle.serve_line.specs.Lists.{Continues}

abbrev pub invariant-loop-slot : goal.invariant-loop-slot
invariant-loop-slot l = Continues l.initial.all.items l.all.items
