use Rattle.std.proofs.Common.{◌+◌, ◌∙◌, ◌≡◌, ap, map, rules, tests}
use Rattle.cli_drive.proofs.CallPorts.{port_on}
use Rattle.cli_drive.proofs.trains.calls.add_connections.Goals as goal
use Rattle.cli_drive.specs.declared.trains.connection.Connection.{Connection}

pub loop-centre-preserved : goal.loop-centre-preserved
loop-centre-preserved c =
    let at : c.new.result.port ≡ c.args.first + c.loop-centre.centre = search (rules, tests) in
    ap (map (λ (x : Connection). x.port)) c.in_ok-push.ensures.items
    ∙ port_on c.args.first c.loop-centre.centre c.args.connections.now.items c.loop-centre.connections.items
    c.new.result c.loop-centre.invariant at
