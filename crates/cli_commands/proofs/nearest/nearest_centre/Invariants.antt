use Rattle.std.proofs.Common.{drop, List, map, Option, ℕ}
use Rattle.cli_commands.proofs.nearest.nearest_centre.Given as goal
use Rattle.cli_commands.specs.Nearest.{IsNearest}

abbrev pub invariant-loop-c : goal.invariant-loop-c
invariant-loop-c l = (found : Option (List ℕ))
    → IsNearest l.word (map (λ p. p.name) (drop l.c l.line.centres)) found
    → IsNearest l.word (map (λ p. p.name) l.line.centres) found
