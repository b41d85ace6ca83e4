use Rattle.std.proofs.Common.{◌+◌, ◌≡◌, All, vec_len}
use Rattle.rbc_log.specs.Log.{IsReplaying}
use Rattle.rbc_node.proofs.gathering.logs_of.Given as goal

abbrev pub invariant-loop-node : goal.invariant-loop-node
invariant-loop-node l = (vec_len l.logs + vec_len l.nodes ≡ vec_len l.initial.nodes) × All IsReplaying l.logs.items

abbrev pub decreases-loop-node : goal.decreases-loop-node
decreases-loop-node l = vec_len l.nodes
