use Rattle.std.proofs.Common.{◌≡◌, length}
use Rattle.rbc_line.proofs.tables.engine_guesses_of.Given as goal
use Rattle.rbc_line.specs.Tables.{HasGuessesOf}

abbrev pub invariant-loop-i : goal.invariant-loop-i
invariant-loop-i l = (length l.guesses ≡ 1024) × HasGuessesOf l.i (λ p. p.nid_engine) l.trains l.guesses
