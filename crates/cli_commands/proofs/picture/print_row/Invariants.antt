use Rattle.std.proofs.Common.{◌≡◌}
use Rattle.std.specs.Io.KnownBytes.{Appends}
use Rattle.cli_commands.proofs.picture.print_row.Given as goal
use Rattle.cli_commands.specs.Pictures.{last_home, numbers_text}

abbrev pub invariant-loop-number : goal.invariant-loop-number
invariant-loop-number g l =
    (l.home ≡ last_home l.line l.track l.number-counter)
    × Appends (g.W.Write.contents l.initial.out) (g.W.Write.contents l.out)
    (numbers_text l.line l.track l.number-counter)
