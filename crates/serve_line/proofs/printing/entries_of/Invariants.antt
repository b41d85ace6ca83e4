use Rattle.std.proofs.Common.{◌≡◌, take}
use Rattle.std.specs.List.{fold}
use Rattle.serve_line.proofs.printing.entries_of.Given as goal
use Rattle.serve_line.specs.Prints.{with_entries}

abbrev pub invariant-loop-log : goal.invariant-loop-log
invariant-loop-log l = l.all ≡ fold with_entries 0 (take l.log-index l.family)
