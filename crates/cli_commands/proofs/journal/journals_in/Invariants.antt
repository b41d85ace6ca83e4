use Rattle.cli_commands.proofs.journal.journals_in.Given as goal
use Rattle.cli_commands.specs.Journals.{AreOfCentres}
use Rattle.std.proofs.Common.{◌≡◌, length}

-- the journals of the first centres were read
abbrev pub invariant-loop-centre : goal.invariant-loop-centre
invariant-loop-centre g l =
    (length l.journals.items ≡ l.centre)
    × AreOfCentres (g.F.Files.may_hold l.files) l.given l.folder l.journals.items
