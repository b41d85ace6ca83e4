use Rattle.std.proofs.Common.{◌≡◌, drop}
use Rattle.cli_commands.proofs.numbers.bounds_in.Given as goal
use Rattle.cli_commands.specs.Forms.{bounds_in, listed}

abbrev pub invariant-loop-number : goal.invariant-loop-number
invariant-loop-number l =
    bounds_in (listed (drop l.number-index l.table)) l.name ≡ bounds_in (listed l.table) l.name
