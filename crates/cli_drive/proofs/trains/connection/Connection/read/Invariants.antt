use Rattle.cli_drive.specs.Connections.{HasRead, KeepsCounts}
use Rattle.cli_drive.proofs.trains.connection.Connection.read.Given as goal

abbrev pub invariant-loop : goal.invariant-loop
invariant-loop l = HasRead l.initial.self l.self × KeepsCounts l.initial.self l.self
