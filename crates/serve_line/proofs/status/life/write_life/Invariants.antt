use Rattle.serve_line.proofs.status.life.write_life.Given as goal
use Rattle.serve_line.specs.Lists.{Continues}

abbrev pub invariant-loop-node : goal.invariant-loop-node
invariant-loop-node g l = Continues l.initial.text.items l.text.items
