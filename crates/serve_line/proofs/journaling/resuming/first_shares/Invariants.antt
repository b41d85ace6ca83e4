use Rattle.std.proofs.Common.{◌≡◌, map, take}
use Rattle.serve_line.proofs.journaling.resuming.first_shares.Given as goal
use Rattle.serve_line.specs.Journaling.Resuming.{first_share}

abbrev pub invariant-loop-node : goal.invariant-loop-node
invariant-loop-node l = l.shares.items ≡ map first_share (take l.node-index l.nodes)
