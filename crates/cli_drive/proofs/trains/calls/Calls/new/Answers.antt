use Rattle.std.proofs.Common.{◌++◌, ◌∙◌, ap, sym}
use Rattle.cli_drive.proofs.CallPorts.{trains_on}
use Rattle.cli_drive.proofs.trains.calls.Calls.new.Goals as goal
use Rattle.cli_drive.specs.Calls.{ports}

pub loop-preserved : goal.loop-preserved
loop-preserved c =
    c.in_ok-add_connections.ensures.ports
    ∙ ap (λ ps. ps ++ ports c.args.first c.args.centres) c.loop.invariant
    ∙ sym (trains_on c.args.first c.args.centres c.loop.counter)
