use Rattle.std.specs.Io.KnownBytes.{Appends}
use Rattle.cli_commands.proofs.picture.print_picture.Given as goal
use Rattle.cli_commands.specs.Pictures.{centres_text, tracks_text, trains_text}

abbrev pub invariant-loop-centre : goal.invariant-loop-centre
invariant-loop-centre g l =
    Appends (g.W.Write.contents l.initial.out) (g.W.Write.contents l.out) (centres_text l.line l.centre)

abbrev pub invariant-loop-track : goal.invariant-loop-track
invariant-loop-track g l =
    Appends (g.W.Write.contents l.initial.out) (g.W.Write.contents l.out) (tracks_text l.line l.track)

abbrev pub invariant-loop-number : goal.invariant-loop-number
invariant-loop-number g l =
    Appends (g.W.Write.contents l.initial.out) (g.W.Write.contents l.out) (trains_text l.line l.number)
