use Rattle.std.proofs.Common.{take}
use Rattle.std.specs.List.{AllZip}
use Rattle.serve_line.proofs.state.build.journals_of.Given as goal
use Rattle.serve_line.specs.Journaling.Beginning.{BeginsAfter}

abbrev pub invariant-loop-node : goal.invariant-loop-node
invariant-loop-node g l = AllZip BeginsAfter (take l.node-index l.nodes) l.journals.items
