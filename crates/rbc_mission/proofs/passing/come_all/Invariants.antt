use Rattle.rbc_mission.proofs.Passes.{HasCome}
use Rattle.rbc_mission.proofs.passing.come_all.Given as goal

abbrev pub invariant-loop-k : goal.invariant-loop-k
invariant-loop-k l = HasCome l.nid_engine l.sections.first l.k l.hand l.fn.book l.book
