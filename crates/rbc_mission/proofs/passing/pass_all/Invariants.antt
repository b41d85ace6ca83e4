use Rattle.rbc_mission.proofs.Passes.{HasPassed}
use Rattle.rbc_mission.proofs.passing.pass_all.Given as goal

abbrev pub invariant-loop : goal.invariant-loop
invariant-loop l = HasPassed l.nid_engine l.counter l.fn.hand l.hand l.fn.book l.book
