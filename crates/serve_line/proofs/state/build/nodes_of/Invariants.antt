use Rattle.std.proofs.Common.{◌≡◌, map}
use Rattle.std.specs.List.{range_with_len}
use Rattle.rbc_node.specs.Node.{centre_of}
use Rattle.serve_line.proofs.state.build.nodes_of.Given as goal

abbrev pub invariant-loop-centre : goal.invariant-loop-centre
invariant-loop-centre l = map centre_of l.nodes.items ≡ map (λ c. c) (range_with_len 0 l.centre)
