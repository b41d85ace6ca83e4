use Rattle.std.proofs.Common.{◌≡◌}
use Rattle.std.specs.Io.KnownBytes.{Appends}
use Rattle.cli_commands.proofs.picture.print_centre.Given as goal
use Rattle.cli_commands.specs.Pictures.{is_alone, linked_names}

abbrev pub invariant-loop-other : goal.invariant-loop-other
invariant-loop-other g l =
    (l.is_alone ≡ is_alone l.line l.centre l.other)
    × Appends (g.W.Write.contents l.initial.out) (g.W.Write.contents l.out)
    (linked_names l.line l.centre l.other)
