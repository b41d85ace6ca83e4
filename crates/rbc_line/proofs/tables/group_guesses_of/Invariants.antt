use Rattle.std.proofs.Common.{◌≡◌, length}
use Rattle.rbc_line.proofs.tables.group_guesses_of.Given as goal
use Rattle.rbc_line.specs.Tables.{HasGuessesOf}

abbrev pub invariant-loop-s : goal.invariant-loop-s
invariant-loop-s l = (length l.guesses ≡ 1024) × HasGuessesOf l.s (λ p. p.balise) l.sections l.guesses
