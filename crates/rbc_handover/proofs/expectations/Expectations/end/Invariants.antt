use Rattle.std.proofs.Common.{vec_len}
use Rattle.rbc_handover.proofs.expectations.Expectations.end.Given as goal

abbrev pub decreases-loop-state : goal.decreases-loop-state
decreases-loop-state l = vec_len l.states
