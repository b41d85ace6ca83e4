use Rattle.std.proofs.Common.{ℕ}
use Rattle.rbc_node.specs.Node.{centre_of}
use Rattle.serve_line.proofs.Ranges.{map_next}
use Rattle.serve_line.proofs.state.build.nodes_of.Goals as goal

pub loop-centre-preserved : goal.loop-centre-preserved
loop-centre-preserved c =
    map_next centre_of (λ (n : ℕ). n) c.loop-centre.centre c.loop-centre.nodes.items c.push.new.self.items
    c.in_ok-node.node c.in_ok-push.ensures.items c.in_ok-node.ensures c.loop-centre.invariant
