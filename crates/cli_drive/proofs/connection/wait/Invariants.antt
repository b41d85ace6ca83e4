use Rattle.std.proofs.Common.{◌≡◌, List, ℕ}
use Rattle.std.specs.Io.KnownBytes.{Appends, Consumes}
use Rattle.cli_drive.specs.Messages.{AreMessages}
use Rattle.cli_drive.proofs.connection.wait.Given as goal

abbrev pub invariant-loop : goal.invariant-loop
invariant-loop g l =
    (l.read ≡ l.counter)
    × ((bytes : List ℕ) × (text : List ℕ) × AreMessages l.counter bytes text
    × Consumes (g.C.Read.remaining l.initial.connection) (g.C.Read.remaining l.connection) bytes
    × Appends (g.O.Write.contents l.initial.out) (g.O.Write.contents l.out) text)
