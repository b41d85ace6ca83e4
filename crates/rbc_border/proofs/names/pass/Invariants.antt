use Rattle.rbc_border.proofs.names.pass.Given as goal
use Rattle.rbc_border.specs.Names.{PassesOn}

abbrev pub invariant-loop : goal.invariant-loop
invariant-loop l = PassesOn l.counter l.fn.names l.fn.hand l.names l.hand
