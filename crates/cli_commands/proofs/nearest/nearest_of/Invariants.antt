use Rattle.std.proofs.Common.{drop, List, map, Option, ℕ}
use Rattle.cli_commands.proofs.nearest.nearest_of.Given as goal
use Rattle.cli_commands.specs.Nearest.{IsNearest}

abbrev pub invariant-loop-name : goal.invariant-loop-name
invariant-loop-name l = (found : Option (List ℕ))
    → IsNearest l.word (map (λ name. name.now) (drop l.name-index l.names)) found
    → IsNearest l.word (map (λ name. name.now) l.names) found
