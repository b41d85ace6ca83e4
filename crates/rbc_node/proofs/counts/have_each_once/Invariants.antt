use Rattle.std.proofs.Common.{All, take}
use Rattle.rbc_node.proofs.counts.have_each_once.Given as goal
use Rattle.rbc_node.specs.Gather.{HasEachOnce}

abbrev pub invariant-loop-log : goal.invariant-loop-log
invariant-loop-log l = All (HasEachOnce l.shares) (take l.log-index l.logs)
