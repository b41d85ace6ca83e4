use Rattle.std.proofs.Common.{◌∙◌}
use Rattle.serve_line.proofs.Ranges.{map_next}
use Rattle.serve_line.proofs.state.build.connections_of.Goals as goal
use Rattle.serve_line.specs.Building.{awaited_journal}
use Rattle.serve_workers.specs.declared.connections.connections.TrainConnections.{TrainConnections}

pub loop-centre-preserved : goal.loop-centre-preserved
loop-centre-preserved c =
    map_next (λ (connections : TrainConnections). connections.journal) (awaited_journal c.args.is_journaled)
    c.loop-centre.centre c.loop-centre.connections.items c.push.new.self.items c.held.result c.in_ok-push.ensures.items
    (c.held.ensures ∙ c.awaited_journal.ensures) c.loop-centre.invariant
