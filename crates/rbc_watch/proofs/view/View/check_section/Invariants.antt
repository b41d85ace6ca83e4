use Rattle.rbc_watch.proofs.view.View.check_section.Given as goal
use Rattle.rbc_watch.specs.Dangers.{IsFoundIn}

abbrev pub invariant-loop-i : goal.invariant-loop-i
invariant-loop-i l = IsFoundIn l.line l.self l.s l.i l.found
