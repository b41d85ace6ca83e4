use Rattle.std.proofs.Common.{◌+◌, ◌≡◌, drop, map}
use Rattle.std.specs.Option.{option_or}
use Rattle.cli_commands.proofs.explain.print_faults_of.Given as goal
use Rattle.cli_commands.specs.Explaining.Rows.{first_faulty}

abbrev pub invariant-loop-k : goal.invariant-loop-k
invariant-loop-k g l =
    option_or l.first (first_faulty l.line (l.k + 1) (map (λ row. row.now) (drop l.k l.rows)))
    ≡ first_faulty l.line 1 (map (λ row. row.now) l.rows)
