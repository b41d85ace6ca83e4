use Rattle.rbc_right.proofs.registrar.Registrar.new.Given as goal
use Rattle.rbc_right.proofs.Rights.{HasRights}

abbrev pub invariant-loop-i : goal.invariant-loop-i
invariant-loop-i l = HasRights l.line l.centre l.i l.rights.items
