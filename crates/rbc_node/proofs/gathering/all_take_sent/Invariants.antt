use Rattle.std.proofs.Common.{All, take}
use Rattle.rbc_node.proofs.gathering.all_take_sent.Given as goal
use Rattle.rbc_node.specs.Sent.{TakesSent}

abbrev pub invariant-loop-log : goal.invariant-loop-log
invariant-loop-log l = All (TakesSent l.logs) (take l.log-index l.logs)
