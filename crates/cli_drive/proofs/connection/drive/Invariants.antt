use Rattle.std.proofs.Common.{List, take, ℕ}
use Rattle.std.specs.Io.KnownBytes.{Appends}
use Rattle.cli_drive.specs.Messages.{AreMessages, messages_in}
use Rattle.cli_drive.proofs.connection.drive.Given as goal

abbrev pub invariant-loop-step : goal.invariant-loop-step
invariant-loop-step g l =
    (bytes : List ℕ) × (text : List ℕ) × AreMessages (messages_in (take l.step-index l.steps)) bytes text
    × Appends (g.O.Write.contents l.initial.out) (g.O.Write.contents l.out) text
