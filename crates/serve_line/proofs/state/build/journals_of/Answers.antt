use Rattle.std.proofs.Common.{arith, List, subst}
use Rattle.std.proofs.lemmas.List.{take_all}
use Rattle.std.specs.List.{AllZip}
use Rattle.rbc_node.specs.declared.node.Node.{Node}
use Rattle.serve_line.proofs.JournalingLemmas.Begins.{begins_next}
use Rattle.serve_line.proofs.state.build.journals_of.Goals as goal
use Rattle.serve_line.specs.Journaling.Beginning.{BeginsAfter}

pub loop-node-preserved : goal.loop-node-preserved
loop-node-preserved g c =
    begins_next c.args.nodes.now c.loop-node.node-index c.node-item.result c.journal_of.result
    c.loop-node.journals.items c.push.new.self.items c.loop-node-test.true c.node-item.is c.in_ok-push.ensures.items
    c.loop-node.invariant c.journal_of.ensures

pub returns : goal.returns
returns g c =
    subst (λ (xs : List Node). AllZip BeginsAfter xs c.loop-node.journals.items)
    (take_all c.loop-node.node-index c.args.nodes.now (omega arith)) c.loop-node.invariant
